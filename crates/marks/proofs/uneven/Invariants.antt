-- `marks::uneven` meets its contract. The loop: the marks before this one are counted. Assumes nothing.
use Rattle.std.proofs.Common.{◌≡◌, take}
use Rattle.std.specs.List.{count_by}
use Rattle.marks.specs.Marks.{not_fresh}
use Rattle.marks.proofs.uneven.Given as goal

abbrev pub invariant-loop-mark : goal.invariant-loop-mark
invariant-loop-mark l = l.found ≡ count_by not_fresh (take l.mark-index l.marks)
