-- `stretches::skip` meets its contract. The loop: the strips passed neither come inside nor go out, and their covers are told. Assumes nothing.
use Rattle.stretches.proofs.Steps.{Skipping}
use Rattle.stretches.proofs.skip.Given as goal

abbrev pub invariant-loop-q : goal.invariant-loop-q
invariant-loop-q l = Skipping l.initial.told l.told l.line.covers.now l.line.truth.now l.r l.line.hi l.q
