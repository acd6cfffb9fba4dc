-- `strips::cross` meets its contract. Assumes nothing.
use Rattle.strips.proofs.TakeLaws.{handed_is, crossed_is}
use Rattle.strips.proofs.cross.Goals as goal

pub returns-clause-crossed : goal.returns-clause-crossed
returns-clause-crossed c = crossed_is _ _ c.min.ensures c.max.ensures (handed_is _ _ _ _ c.fresh-s.ensures c.crossing-next.ensures c.requires.layer) c.take_over.ensures
