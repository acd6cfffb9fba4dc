-- `records::coordinate` meets its contract. Assumes nothing.
use mir.Facts.{to_z-of_z}
use Rattle.records.proofs.Coordinates.{back64, fits32}
use Rattle.records.proofs.coordinate.Goals as goal

pub returns : goal.returns
returns c = rw (c.from.ensures, c.from-2.ensures, back64 c.args.u c.requires) (to_z-of_z (fits32 c.args.u c.requires))
