use lib.ListN.{take}
use Rattle.numerals.specs.Stored.{Stored}
use Rattle.numerals.proofs.Writer.word.Given as goal

abbrev pub invariant-loop-b : goal.invariant-loop-b
invariant-loop-b l = Stored l.initial.self (take l.b-index l.w) l.self
