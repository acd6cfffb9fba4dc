-- `sweep::fill` meets its contract. Assumes nothing.
use mathlib.Core.Path.{refl}
use native.Mathlib.Omega.{arith}
use Rattle.strips.specs.Lent.{lent_on}
use Rattle.sweep.specs.Going.{filling_start, advance_ready, line_ready, filling_more, filling_full, filling_done}
use Rattle.sweep.proofs.fill.Goals as goal

pub loop-e-init : goal.loop-e-init
loop-e-init c = record { filling = filling_start c.requires; lent = (refl, refl) }

pub returns-then-loc-so_far-clause-filled : goal.returns-then-loc-so_far-clause-filled
returns-then-loc-so_far-clause-filled c = let F = c.loop-e.invariant.filling in filling_full F c.loop-e-test.true (omega (arith, c.if-loc-so_far.true, F.low))

pub advance-t-requires : goal.advance-t-requires
advance-t-requires c =
    let F = c.loop-e.invariant.filling in
    advance_ready F.given F.going c.loop-e-test.true

pub value-y-requires : goal.value-y-requires
value-y-requires c =
    let F = c.loop-e.invariant.filling in
    omega (arith, F.given.heights _ c.loop-e-test.true)

pub read-so_far-requires : goal.read-so_far-requires
read-so_far-requires c =
    let F = c.loop-e.invariant.filling in
    let L = c.line_below-line.ensures in
    rw (L.covers, L.truth, L.hi) (line_ready F.given F.going c.loop-e-test.true c.advance-t.ensures.advanced (omega (arith, c.if-loc-so_far.false, F.low)) _ c.value-y.ensures)

pub loop-e-smaller : goal.loop-e-smaller
loop-e-smaller c = omega (arith, c.advance-t.ensures.advanced.more, c.advance-t.ensures.advanced.fits)

pub loop-e-preserved : goal.loop-e-preserved
loop-e-preserved c =
    let F = c.loop-e.invariant in
    let A = c.advance-t.ensures in
    let L = c.line_below-line.ensures in
    record {
      filling = filling_more F.filling c.loop-e-test.true A.advanced (omega (arith, c.if-loc-so_far.false, F.filling.low)) _ c.value-y.ensures A.fresh (rw (L.covers, L.truth) at c.read-so_far.ensures);
      lent = lent_on F.lent A.lent;
    }

pub returns-clause-filled : goal.returns-clause-filled
returns-clause-filled c = filling_done c.loop-e.invariant.filling (omega arith)
