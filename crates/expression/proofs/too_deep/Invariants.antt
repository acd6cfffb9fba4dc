-- `expression::too_deep` meets its contract. The invariant: both counters count, and no beginning passed is too deep. Assumes nothing.
use Rattle.std.proofs.Common.{◌≡◌, ◌≤◌, take}
use Prim.Native.Char.{code}
use Rattle.meaning.specs.Expression.{often}
use Rattle.expression_laws.specs.Depth.{Shallow}
use Rattle.expression.proofs.too_deep.Given as goal

abbrev pub invariant-loop-b : goal.invariant-loop-b
invariant-loop-b l =
    (l.opens ≡ often (code "(") (take l.b-index l.text)) × (l.closes ≡ often (code ")") (take l.b-index l.text)) × (l.opens ≤ l.b-index) × (l.closes ≤ l.b-index) × Shallow l.text l.b-index
