-- `crossings::advance` meets its contract. Assumes nothing.
use Rattle.crossings.specs.AdvanceLaws.{advance_done}
use Rattle.crossings.proofs.advance.Goals as goal

pub returns-clause-advanced : goal.returns-clause-advanced
returns-clause-advanced c = advance_done c.requires.0 c.each.ensures.held.advancing c.each.ensures.stop
