-- `strips::take_over` meets its contract. The loop: the strips below r are done. Assumes nothing.
use Rattle.strips.proofs.TakeLaws.{Taking}
use Rattle.strips.proofs.take_over.Given as goal

abbrev pub invariant-loop-r : goal.invariant-loop-r
invariant-loop-r l = Taking l.n l.layer l.a l.b l.handed l.r l.initial.c l.c l.initial.covers l.covers
