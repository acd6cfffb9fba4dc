-- `sum_of_covers`: each cover adds at most 256. Assumes nothing.
use Rattle.std.proofs.Common.{◌*◌, ◌≤◌}
use Rattle.run_expression.proofs.sum_of_covers.Given as goal

abbrev pub invariant-loop-m : goal.invariant-loop-m
invariant-loop-m l = l.n ≤ 256 * l.m
