-- `expression::stands` meets its contract: a byte is among those of the text where it stands in it. What the search alone misses is the induction along the text. Assumes nothing.
use Rattle.std.specs.Prelude.{◌≡◌, refl, true, false, not, ◌||◌, List, [], ◌∷◌, ℕ, ◌+◌, eqb}
use Rattle.std.specs.List.{list_any}
use Rattle.std.proofs.Common.{arith, ◌∙◌, zero-add}
use Rattle.std.proofs.lemmas.Bool.Decides.{nat_tests}
use Rattle.meaning.specs.Numbers.{bit}
use Rattle.meaning.specs.Edges.{number}
use Rattle.meaning.specs.Expression.{often}
use Rattle.expression.proofs.stands.Goals as goal

found_often : (b : ℕ) (s : List ℕ) → list_any (λ y. eqb y b) s ≡ not (eqb (often b s) 0)
unfolding often number
found_often b [] = refl
found_often b (x ∷ xs) =
    elim (eqb x b) as (λ t. (t || list_any (λ y. eqb y b) xs) ≡ not (eqb (bit t + number (λ y. eqb y b) xs) 0)) [ true ↦ grind (arith, nat_tests) | false ↦ simp zero-add (found_often b xs) ]

pub returns : goal.returns
returns c =
    let k : c.contains.result ≡ not (eqb (often c.args.b c.args.text.now) 0) = c.contains.ensures.value ∙ found_often c.args.b c.args.text.now in
    grind (arith, nat_tests)
