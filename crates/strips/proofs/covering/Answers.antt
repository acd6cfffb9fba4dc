-- `strips::covering` meets its contract. The one use of the coverage rule in naturals. Assumes nothing.
use Rattle.std.proofs.Common.{sym}
use Rattle.grid_laws.specs.Covering.{covers_ltb}
use Rattle.strips.proofs.covering.Goals as goal

pub returns : goal.returns
returns c = sym (covers_ltb c.args.count 8192)
