-- `strips::take_over` meets its contract. The loop: the strips below r are done. Assumes nothing.
use Rattle.strips.proofs.TakeLaws.{taking_turn}
use Rattle.strips.proofs.take_over.Goals as goal

pub loop-r-preserved : goal.loop-r-preserved
loop-r-preserved c = taking_turn c.requires c.loop-r.invariant c.loop-r-test.true _ _ c.covering.ensures c.turned.ensures
