-- `maskfile::list_from` meets its contract. Assumes nothing.
use Rattle.maskfile.proofs.Whole.{edition_refused, edition_other, edition_one, begins_one}
use Rattle.maskfile.proofs.list_from.Goals as goal

pub returns-in_default : goal.returns-in_default
returns-in_default c = edition_refused _ _ _ c.number_at-edition.ensures _ _ c.in_default.is

pub rings_from-requires : goal.rings_from-requires
rings_from-requires c = begins_one _ c.args.out.now _ c.number_at-edition.ensures _ _ (λ i. (c.type_inv.file i).fits) c.in-Ok.is c.if-number-eq-EDITION.true

pub returns-then-number-eq-EDITION : goal.returns-then-number-eq-EDITION
returns-then-number-eq-EDITION c = edition_one _ _ _ c.number_at-edition.ensures _ _ (λ i. (c.type_inv.file i).fits) c.in-Ok.is _ _ c.if-number-eq-EDITION.true c.rings_from.ensures

pub returns : goal.returns
returns c = edition_other _ _ _ c.number_at-edition.ensures _ _ (λ i. (c.type_inv.file i).fits) c.in-Ok.is _ c.if-number-eq-EDITION.false
