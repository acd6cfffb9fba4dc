-- `marks::sum_up` meets its contract. The loop: the strips below r are done. Assumes nothing.
use mathlib.Core.Path.{refl}
use Rattle.marks.proofs.SumLaws.{sum_start, sum_takes, sum_turn}
use Rattle.marks.proofs.sum_up.Goals as goal

pub loop-r-init : goal.loop-r-init
loop-r-init c = record { summing = sum_start c.requires; lent = (refl, refl) }

pub take_over-requires : goal.take_over-requires
take_over-requires c = sum_takes c.requires c.loop-r.invariant.summing c.loop-r-test.true

pub loop-r-preserved : goal.loop-r-preserved
loop-r-preserved c = record { summing = sum_turn c.requires c.loop-r.invariant.summing c.loop-r-test.true c.take_over.ensures; lent = c.loop-r.invariant.lent }
