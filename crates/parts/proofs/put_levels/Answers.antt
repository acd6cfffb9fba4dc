-- `parts::put_levels` meets its contract. Assumes nothing.
use native.Mathlib.Omega.{arith}
use Rattle.parts.proofs.Levelling.{levelling_more, levelling_done}
use Rattle.parts.proofs.put_levels.Goals as goal

pub loop-i-preserved : goal.loop-i-preserved
loop-i-preserved c = levelling_more c.loop-i.invariant c.loop-i-test.true c.height.ensures c.rank_from.ensures.0 c.rank_to.ensures.0 c.put.ensures

pub returns : goal.returns
returns c = levelling_done c.loop-i.invariant (omega arith)
