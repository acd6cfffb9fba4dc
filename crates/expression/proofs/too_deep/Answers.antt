-- `expression::too_deep` meets its contract. The invariant: both counters count, and no beginning passed is too deep. Assumes nothing.
use Rattle.std.proofs.Common.{◌≡◌, refl, Bool, true, false, ℕ, ◌+◌, ◌≤◌, true≢false, arith, rules}
use Rattle.std.proofs.lemmas.Bool.{false≢true}
use mir.Val.{bool_byte}
use Rattle.meaning.specs.Numbers.{bit}
use Prim.Native.Char.{code}
use Rattle.meaning.specs.Expression.{often, Deep}
use Rattle.meaning.specs.Edges.{number}
use Rattle.expression_laws.specs.Depth.{shallow_none, shallow_more, not_deep, often_more}
use Rattle.expression.proofs.too_deep.Goals as goal

-- a comparison as a number is a bit
as_bit : (t : Bool) (n : ℕ) → n ≡ bool_byte t → (n ≡ bit t) × (n ≤ 1)
as_bit true n e = (e, omega arith)
as_bit false n e = (e, omega arith)

pub loop-b-init : goal.loop-b-init
unfolding often number
loop-b-init c = (refl, refl, search rules, search rules, shallow_none _)

pub returns-then-closes-opens : goal.returns-then-closes-opens
unfolding Deep
returns-then-closes-opens c =
    let i = c.loop-b.b-index in
    let s = c.args.text.now in
    let p = often_more (code "(") s i c.loop-b-test.true in
    let q = often_more (code ")") s i c.loop-b-test.true in
    let k = as_bit _ _ c.from-opens.ensures in
    let l = as_bit _ _ c.from-closes.ensures in
    ((λ _. (i + 1, omega arith, omega arith)), (λ e _. true≢false e))

pub loop-b-preserved : goal.loop-b-preserved
loop-b-preserved c =
    let i = c.loop-b.b-index in
    let s = c.args.text.now in
    let p = often_more (code "(") s i c.loop-b-test.true in
    let q = often_more (code ")") s i c.loop-b-test.true in
    let k = as_bit _ _ c.from-opens.ensures in
    let l = as_bit _ _ c.from-closes.ensures in
    (omega arith, omega arith, omega arith, omega arith, shallow_more s i c.loop-b.invariant.4 (omega arith))

pub returns : goal.returns
returns c = ((λ e. absurd (false≢true e)), (λ _ d. not_deep _ c.loop-b.b-index c.loop-b.invariant.4 c.loop-b-test.false d))
