-- `lifting::lift` meets its contract: the columns have the first k edges. Assumes nothing.
use Rattle.meaning.specs.Numbers.{limit}
use Rattle.lifting.specs.Columns.{steps, Lifting}
use Rattle.lifting.proofs.lift.Given as goal

abbrev pub invariant-loop-k : goal.invariant-loop-k
invariant-loop-k l = Lifting (steps limit l.edges) l.layers l.ys l.xs l.k
