-- `crossings::each` meets its contract. The loop: the step was done with the edges of the place below e. Assumes nothing.
use Rattle.crossings.proofs.each.Given as goal

abbrev pub invariant-loop-e : goal.invariant-loop-e
invariant-loop-e g l = g.S.Step.holds l.n l.edges.words.now l.edges.layers.now l.edges.ends.now l.g l.initial.on l.e l.lo l.hi l.on
