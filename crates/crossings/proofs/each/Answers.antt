-- `crossings::each` meets its contract. The loop: the step was done with the edges of the place below e. Assumes nothing.
use mathlib.Core.Path.{sym, ◌∙◌}
use native.Mathlib.Omega.{arith}
use Rattle.std.proofs.Common.{◌≡◌, length}
use Rattle.crossings.specs.PlaceLaws.{least_min, most_max}
use Rattle.crossings.proofs.each.Goals as goal

pub loop-e-preserved : goal.loop-e-preserved
loop-e-preserved g c =
    g.S.Step.laws.turn _ _ _ _ _ _ c.requires _ _ _ _ c.loop-e.invariant c.loop-e-test.true _ _ c.step-s.ensures
    (sym c.height.ensures ∙ c.if-height-y.false ∙ c.height-y.ensures) _ _ (c.min-lo.ensures ∙ least_min _ _) (c.max-hi.ensures ∙ most_max _ _)

pub returns-clause-held : goal.returns-clause-held
returns-clause-held g c =
    let u = g.S.Step.laws.some _ _ _ _ _ _ c.requires in
    let z : length c.args.edges.words.now ≡ c.loop-e.e = omega arith in
    rw z c.loop-e.invariant
