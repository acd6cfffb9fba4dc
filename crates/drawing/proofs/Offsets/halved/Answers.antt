-- `Offsets::halved` meets its contract. Assumes nothing.
use borrow.Author.Rules.{rules}
use mir.ValLaws.{to_z-of_z}
use Rattle.drawing.proofs.Tests.{all_near}
use Rattle.drawing.proofs.Offsets.halved.Goals as goal

pub halved-requires-clause-d_bound : goal.halved-requires-clause-d_bound
halved-requires-clause-d_bound c = let n = all_near _ _ _ c.requires.drawn in search (rules, to_z-of_z, n.0)

pub halved-requires-2-clause-d_bound : goal.halved-requires-2-clause-d_bound
halved-requires-2-clause-d_bound c = let n = all_near _ _ _ c.requires.drawn in search (rules, to_z-of_z, n.1)

pub halved-requires-3-clause-d_bound : goal.halved-requires-3-clause-d_bound
halved-requires-3-clause-d_bound c = let n = all_near _ _ _ c.requires.drawn in search (rules, to_z-of_z, n.2)
