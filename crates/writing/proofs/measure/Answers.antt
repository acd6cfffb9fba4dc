-- `writing::measure` meets its contract. Assumes nothing.
use mathlib.Core.Path.{refl, ◌∙◌}
use native.Mathlib.Nat.{sub-zero}
use native.Mathlib.Omega.{arith}
use Rattle.strips.specs.Lent.{lent_on}
use Rattle.writing.specs.Loops.{measuring_start, fill_ready, count_low, count_ready, sum_low, measuring_more, measuring_done}
use borrow.Author.Rules.{rules}
use Rattle.writing.proofs.measure.Goals as goal

pub loop-g-init : goal.loop-g-init
loop-g-init c = record { measuring = measuring_start c.requires; long = refl; lent = (refl, refl) }

pub fill-f-requires : goal.fill-f-requires
fill-f-requires c = let S = c.loop-g.invariant.measuring in fill_ready S.given S.at S.room S.rows

pub slice_bounds-count-end : goal.slice_bounds-count-end
slice_bounds-count-end c =
    let l = count_low c.loop-g.invariant.measuring c.fill-f.ensures.filled in
    search rules

pub count-requires : goal.count-requires
count-requires c = rw sub-zero (count_ready c.loop-g.invariant.measuring c.fill-f.ensures.filled)

pub overflow_add-all : goal.overflow_add-all
overflow_add-all c =
    let l = sum_low c.loop-g.invariant.measuring c.fill-f.ensures.filled in
    search rules

pub loop-g-smaller : goal.loop-g-smaller
loop-g-smaller c = omega (arith, c.fill-f.ensures.filled.more c.loop-g-test.true, c.loop-g-test.true)

pub loop-g-preserved : goal.loop-g-preserved
loop-g-preserved c = record {
  measuring = measuring_more c.loop-g.invariant.measuring c.fill-f.ensures.filled (rw sub-zero at c.count.ensures) (omega (arith, c.fill-f.ensures.long.1, c.loop-g.invariant.measuring.rows));
  long = c.fill-f.ensures.long.0 ∙ c.loop-g.invariant.long;
  lent = lent_on c.loop-g.invariant.lent c.fill-f.ensures.lent;
}

pub returns-clause-measured : goal.returns-clause-measured
returns-clause-measured c = measuring_done c.loop-g.invariant.measuring (omega arith)
