-- `stretches::fill` meets its contract. The loop: the strips passed have changed alike, and their covers are told. Assumes nothing.
use Rattle.stretches.proofs.Steps.{Filling}
use Rattle.stretches.proofs.fill.Given as goal

abbrev pub invariant-loop-q : goal.invariant-loop-q
invariant-loop-q l = Filling l.initial.told l.told l.line.covers.now l.line.truth.now l.r l.line.hi l.b l.q
