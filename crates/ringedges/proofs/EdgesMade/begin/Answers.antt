-- `ringedges::EdgesMade::begin` meets its contract. Assumes nothing.
use Rattle.ringedges.specs.Begun.{edges_start}
use Rattle.ringedges.proofs.EdgesMade.begin.Goals as goal

pub returns : goal.returns
returns c = edges_start _
