-- `closure::mark_all` meets its contract: the first k edges are marked. Assumes nothing.
use Rattle.closure.specs.TestLaws.{MarkedTo}
use Rattle.closure.proofs.mark_all.Given as goal

abbrev pub invariant-loop-k : goal.invariant-loop-k
invariant-loop-k l = MarkedTo l.layers l.ends l.n l.c l.k
