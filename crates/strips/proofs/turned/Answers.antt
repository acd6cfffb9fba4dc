-- `strips::turned` meets its contract. Assumes nothing.
use Rattle.std.specs.Prelude.{Bool}
use Rattle.std.proofs.Common.{sym, ap, ◌∙◌}
use Rattle.meaning.specs.Numbers.{bit}
use Rattle.strips.specs.Cover.{turned_to}
use Rattle.strips.specs.CoverLaws.{turned_on, turned_off}
use Rattle.strips.proofs.turned.Goals as goal

pub returns-then-covered : goal.returns-then-covered
returns-then-covered c = turned_on c.args.cover c.args.layer c.requires ∙ sym (ap (λ (b : Bool). turned_to c.args.cover c.args.layer (bit b)) c.if-covered.true)

pub returns-else-covered : goal.returns-else-covered
returns-else-covered c = turned_off c.args.cover c.args.layer c.ranges.cover.fits c.requires ∙ sym (ap (λ (b : Bool). turned_to c.args.cover c.args.layer (bit b)) c.if-covered.false)
