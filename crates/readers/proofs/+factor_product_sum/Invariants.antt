-- The measure of a call is three for each byte left, and the level. A chain's invariant: what is read is what is left to read from i on, after an expression of the value v.
use Rattle.std.proofs.Common.{◌-◌, ◌≤◌, length}
use Rattle.expression_laws.specs.Cover.{cover_of}
use Rattle.expression_laws.specs.Reader.{a_factor, a_product, a_sum, product_on, sum_on, enough}
use Rattle.readers.proofs.Pieces.{Going}
use Rattle.readers.proofs.+factor_product_sum.Given as goal

abbrev pub decreases-factor : goal.decreases-factor
decreases-factor l = enough l.text.now a_factor l.at

abbrev pub decreases-product : goal.decreases-product
decreases-product l = enough l.text.now a_product l.at

abbrev pub decreases-sum : goal.decreases-sum
decreases-sum l = enough l.text.now a_sum l.at

abbrev pub invariant-product-loop-op : goal.invariant-product-loop-op
invariant-product-loop-op l = (l.at ≤ l.i) × Going (cover_of l.handed) l.text a_product product_on l.at l.v l.i

abbrev pub decreases-product-loop-op : goal.decreases-product-loop-op
decreases-product-loop-op l = length l.text - l.i

abbrev pub invariant-sum-loop-op : goal.invariant-sum-loop-op
invariant-sum-loop-op l = (l.at ≤ l.i) × Going (cover_of l.handed) l.text a_sum sum_on l.at l.v l.i

abbrev pub decreases-sum-loop-op : goal.decreases-sum-loop-op
decreases-sum-loop-op l = length l.text - l.i
