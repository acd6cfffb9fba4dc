use native.Mathlib.Omega.{arith}
use Rattle.numerals.proofs.Digits.{next_byte}
use Rattle.numerals.proofs.Writer.word.Goals as goal

pub loop-b-preserved : goal.loop-b-preserved
loop-b-preserved c = next_byte _ c.loop-b.b-index (omega arith) c.loop-b.invariant c.byte.ensures
