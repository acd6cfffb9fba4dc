-- `marks::sum_all` meets its contract. The loop: the layers below l are done. Assumes nothing.
use native.Mathlib.Omega.{arith}
use Rattle.strips.specs.Lent.{lent_on}
use Rattle.marks.proofs.AllLaws.{all_layer, all_turn}
use Rattle.marks.proofs.sum_all.Goals as goal

pub sum_layer-requires : goal.sum_layer-requires
sum_layer-requires c = all_layer c.requires c.loop-l.invariant.summing (omega (arith, c.loop-l-test.true))

pub loop-l-preserved : goal.loop-l-preserved
loop-l-preserved c = record {
  summing = all_turn c.requires c.loop-l.invariant.summing (omega (arith, c.loop-l-test.true)) c.sum_layer.ensures.summed;
  lent = lent_on c.loop-l.invariant.lent c.sum_layer.ensures.lent;
}
