-- The readers of a factor, a product and a sum, which call each other, meet their contracts: each answers as the reader by which the grammar is decided does. Assumes nothing.
use Rattle.std.proofs.Common.{arith, sym, ◌∙◌}
use Rattle.std.proofs.lemmas.Bool.Decides.{nat_tests}
use Rattle.std.proofs.lemmas.Option.{gets}
use Rattle.expression_laws.specs.Reader.{a_factor, a_product}
use Rattle.expression_laws.specs.Steps.{product_chain, sum_chain}
use Rattle.readers.proofs.Pieces
use Rattle.readers.proofs.+factor_product_sum.Goals as goal

pub factor-returns-in_default : goal.factor-returns-in_default
factor-returns-in_default t c = Pieces.at_end _ _ _ (grind (arith, nat_tests, gets))

pub factor-returns-in_default-r : goal.factor-returns-in_default-r
factor-returns-in_default-r t c = Pieces.not_refused _ _ _ (grind (arith, nat_tests, gets)) c.factor-r.ensures c.in_default-r.is

pub factor-returns-then-b-eq33 : goal.factor-returns-then-b-eq33
factor-returns-then-b-eq33 t c = Pieces.not_got _ _ _ (grind (arith, nat_tests, gets)) c.factor-r.ensures c.in-Some-r.is

pub factor-returns-in_default-r-2 : goal.factor-returns-in_default-r-2
factor-returns-in_default-r-2 t c = Pieces.open_refused _ _ _ (grind (arith, nat_tests, gets)) c.sum-r.ensures c.in_default-r-2.is

pub factor-returns-in_default-get : goal.factor-returns-in_default-get
factor-returns-in_default-get t c = Pieces.open_left _ _ _ (grind (arith, nat_tests, gets)) c.sum-r.ensures c.in-Some-r-2.is (grind (arith, nat_tests, gets))

pub factor-returns-in_default-get-2 : goal.factor-returns-in_default-get-2
factor-returns-in_default-get-2 t c = Pieces.open_left _ _ _ (grind (arith, nat_tests, gets)) c.sum-r.ensures c.in-Some-r-2.is (grind (arith, nat_tests, gets))

pub factor-returns-then-b-eq40 : goal.factor-returns-then-b-eq40
factor-returns-then-b-eq40 t c = Pieces.open_closed _ _ _ (grind (arith, nat_tests, gets)) c.sum-r.ensures c.in-Some-r-2.is (grind (arith, nat_tests, gets))

pub factor-returns-in_default-r-3 : goal.factor-returns-in_default-r-3
factor-returns-in_default-r-3 t c = Pieces.leaf _ _ _ (grind (arith, nat_tests, gets)) (grind (arith, nat_tests, gets)) c.letter-r.ensures

pub factor-returns : goal.factor-returns
factor-returns t c = Pieces.leaf _ _ _ (grind (arith, nat_tests, gets)) (grind (arith, nat_tests, gets)) (sym c.in-Some-r-3.is ∙ c.letter-r.ensures)

pub product-returns-in_default : goal.product-returns-in_default
product-returns-in_default t c = Pieces.first_refused (product_chain _) _ _ c.factor-r.ensures c.in_default.is

pub product-loop-op-init : goal.product-loop-op-init
product-loop-op-init t c = (let k = Pieces.moved _ _ a_factor _ c.factor-r.ensures c.in-Some.is in omega arith, Pieces.starts (product_chain _) _ _ c.factor-r.ensures c.in-Some.is)

pub product-returns-then-not-is_tight : goal.product-returns-then-not-is_tight
product-returns-then-not-is_tight t c = Pieces.stops (product_chain _) _ _ c.loop-op.invariant.1 (grind (arith, nat_tests, gets))

pub product-returns-in_default-r : goal.product-returns-in_default-r
product-returns-in_default-r t c = Pieces.breaks (product_chain _) _ _ c.loop-op.invariant.1 (grind (arith, nat_tests, gets)) c.factor-r-in-Some-get.ensures c.in_default-r.is

pub product-loop-op-smaller : goal.product-loop-op-smaller
product-loop-op-smaller t c = let k = Pieces.moved _ _ a_factor _ c.factor-r-in-Some-get.ensures c.in-Some-r.is in grind (arith, nat_tests)

pub product-loop-op-preserved : goal.product-loop-op-preserved
product-loop-op-preserved t c = (let k = Pieces.moved _ _ a_factor _ c.factor-r-in-Some-get.ensures c.in-Some-r.is in omega arith, Pieces.goes_on (product_chain _) _ _ c.loop-op.invariant.1 (grind (arith, nat_tests, gets)) c.factor-r-in-Some-get.ensures c.in-Some-r.is (grind (arith, nat_tests, gets)))

pub product-returns : goal.product-returns
product-returns t c = Pieces.ends (product_chain _) _ _ c.loop-op.invariant.1 (grind (arith, nat_tests, gets))

pub sum-returns-in_default : goal.sum-returns-in_default
sum-returns-in_default t c = Pieces.first_refused (sum_chain _) _ _ c.product-r.ensures c.in_default.is

pub sum-loop-op-init : goal.sum-loop-op-init
sum-loop-op-init t c = (let k = Pieces.moved _ _ a_product _ c.product-r.ensures c.in-Some.is in omega arith, Pieces.starts (sum_chain _) _ _ c.product-r.ensures c.in-Some.is)

pub sum-returns-then-not-is_loose : goal.sum-returns-then-not-is_loose
sum-returns-then-not-is_loose t c = Pieces.stops (sum_chain _) _ _ c.loop-op.invariant.1 (grind (arith, nat_tests, gets))

pub sum-returns-in_default-r : goal.sum-returns-in_default-r
sum-returns-in_default-r t c = Pieces.breaks (sum_chain _) _ _ c.loop-op.invariant.1 (grind (arith, nat_tests, gets)) c.product-r-in-Some-get.ensures c.in_default-r.is

pub sum-loop-op-smaller : goal.sum-loop-op-smaller
sum-loop-op-smaller t c = let k = Pieces.moved _ _ a_product _ c.product-r-in-Some-get.ensures c.in-Some-r.is in grind (arith, nat_tests)

pub sum-loop-op-preserved : goal.sum-loop-op-preserved
sum-loop-op-preserved t c = (let k = Pieces.moved _ _ a_product _ c.product-r-in-Some-get.ensures c.in-Some-r.is in omega arith, Pieces.goes_on (sum_chain _) _ _ c.loop-op.invariant.1 (grind (arith, nat_tests, gets)) c.product-r-in-Some-get.ensures c.in-Some-r.is (grind (arith, nat_tests, gets)))

pub sum-returns : goal.sum-returns
sum-returns t c = Pieces.ends (sum_chain _) _ _ c.loop-op.invariant.1 (grind (arith, nat_tests, gets))
