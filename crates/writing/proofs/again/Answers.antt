-- `writing::again` meets its contract. Assumes nothing.
use mathlib.Core.Path.{refl, ◌∙◌}
use native.Mathlib.Nat.{sub-zero}
use native.Mathlib.Omega.{arith}
use Rattle.strips.specs.Lent.{lent_on}
use Rattle.writing.specs.Loops.{fill_ready, rewriting_start, repart_low, repart_sum, rewriting_part, rewriting_more, rewriting_done}
use borrow.Author.Rules.{rules}
use Rattle.writing.proofs.again.Goals as goal

pub loop-g-init : goal.loop-g-init
loop-g-init c = record { rewriting = rewriting_start c.requires; long = refl; lent = (refl, refl) }

pub fill-f-requires : goal.fill-f-requires
fill-f-requires c = let S = c.loop-g.invariant.rewriting in fill_ready S.given S.at S.room S.rows

pub slice_bounds-put-end : goal.slice_bounds-put-end
slice_bounds-put-end c =
    let l = repart_low c.loop-g.invariant.rewriting c.fill-f.ensures.filled in
    search rules

pub put-requires : goal.put-requires
put-requires c = rw sub-zero (rewriting_part c.loop-g.invariant.rewriting c.fill-f.ensures.filled)

pub overflow_add-n : goal.overflow_add-n
overflow_add-n c =
    let l = repart_sum c.loop-g.invariant.rewriting c.fill-f.ensures.filled in
    search rules

pub loop-g-smaller : goal.loop-g-smaller
loop-g-smaller c = omega (arith, c.fill-f.ensures.filled.more c.loop-g-test.true, c.loop-g-test.true)

pub loop-g-preserved : goal.loop-g-preserved
loop-g-preserved c = record {
  rewriting = rewriting_more c.loop-g.invariant.rewriting c.fill-f.ensures.filled (rw sub-zero at c.put.ensures) (omega (arith, c.fill-f.ensures.long.1, c.loop-g.invariant.rewriting.rows)) (omega (arith, c.put.auto.cs));
  long = c.fill-f.ensures.long.0 ∙ c.loop-g.invariant.long;
  lent = lent_on c.loop-g.invariant.lent c.fill-f.ensures.lent;
}

pub returns-clause-written : goal.returns-clause-written
returns-clause-written c = rewriting_done c.loop-g.invariant.rewriting (omega arith)
