-- `rings::after` meets its contract. Assumes nothing.
use Rattle.rings.proofs.Steps.{count_bounds}
use Rattle.rings.proofs.after.Goals as goal

pub overflow_sub-result : goal.overflow_sub-result
overflow_sub-result c = (count_bounds _ _ c.requires c.in-Count.is).0

pub overflow_sub-result-in-Count : goal.overflow_sub-result-in-Count
overflow_sub-result-in-Count c = (count_bounds _ _ c.requires c.in-Count.is).1
