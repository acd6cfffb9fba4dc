-- THE THEOREM: bucketed by x and taken in pairs, the ends of a result's horizontal records are its vertical records. Assumes nothing.
--
--   verticals_of       verticals L of the horizontal records of a result are its vertical records
--   result_verticals   the same by kind, out of the result
--   result_is          so a result is its horizontal records, followed by what they make
--   verticals_many     AS MANY: they make as many as they are
use Rattle.std.specs.Prelude.{◌≡◌, refl, Bool, true, false, List, [], ◌∷◌, ◌++◌, map, ℕ, suc, ◌*◌, eqb, ℤ, length}
use Rattle.std.proofs.Common.{sym, ap, ap₂, ◌∙◌}
use Rattle.std.proofs.Math.Path.{fun_ext}
use Rattle.meaning.specs.Numbers.{eq_z, step}
use Rattle.meaning.specs.Cells.{level, upright, Within}
use Rattle.meaning.specs.Records.{Record, rec, each, kind_of, result}
use Rattle.basic_laws.specs.Steps.{step_eq, lowered}
use Rattle.grid_laws.specs.Plane.{level_n, kind_n}
use Rattle.laws.specs.View.{view, levels_view, uprights_view, within_bounded}
use Rattle.laws.specs.Parts.{kinds_even}
use Rattle.vertical_laws.specs.Tips.{Tip, tip, tips_of, keep_if, only, pairs, by_x, verticals_n, by_column, verticals}
use Rattle.vertical_laws.proofs.PlaneTips.{verticals_are}
use Rattle.vertical_laws.specs.Theorem.{keep_map, lower_tip, map_each, those, those_level, those_upright}

tips_lower : (L : ℕ) (rs : List (Record ℕ)) → tips_of (map (lowered L) rs) ≡ map (lower_tip L) (tips_of rs)
unfolding tips_of
tips_lower L [] = refl
tips_lower L (rec kind y f t ∷ rs) = ap (λ ts. tip (step L f) (step L y) false ∷ tip (step L t) (step L y) true ∷ ts) (tips_lower L rs)

only_lower : (L x : ℕ) (ts : List (Tip ℕ)) → only (λ k. eq_z k (step L x)) (map (lower_tip L) ts) ≡ map (lower_tip L) (only (λ k. eqb k x) ts)
unfolding only
only_lower L x [] = refl
only_lower L x (tip k y b ∷ ts) =
    ap₂ (λ (c : Bool) (us : List (Tip ℤ)). keep_if c (tip (step L k) (step L y) b) us) (step_eq L k x) (only_lower L x ts)
    ∙ keep_map (lower_tip L) (eqb k x) (tip k y b) (only (λ i. eqb i x) ts)

pairs_lower : (L : ℕ) (ts : List (Tip ℕ)) → pairs (map (lower_tip L) ts) ≡ map (lowered L) (pairs ts)
unfolding pairs
pairs_lower L [] = refl
pairs_lower L (t ∷ []) = refl
pairs_lower L (tip x y true ∷ tip x' y' b ∷ ts) = ap (◌∷◌ (rec 1 (step L x) (step L y) (step L y'))) (pairs_lower L ts)
pairs_lower L (tip x y false ∷ tip x' y' b ∷ ts) = ap (◌∷◌ (rec 1 (step L x) (step L y') (step L y))) (pairs_lower L ts)

columns_lower : (L : ℕ) (ts : List (Tip ℕ)) → by_column L (map (lower_tip L) ts) ≡ map (lower_tip L) (by_x (suc (2 * L)) ts)
unfolding by_column by_x
columns_lower L ts =
    ap (λ (h : ℕ → List (Tip ℤ)). each h 0 (suc (2 * L))) (fun_ext (λ x. only_lower L x ts))
    ∙ map_each (lower_tip L) (λ x. only (λ k. eqb k x) ts) 0 (suc (2 * L))

pub verticals_lower : (L : ℕ) (hs : List (Record ℕ)) → verticals L (map (lowered L) hs) ≡ map (lowered L) (verticals_n (suc (2 * L)) hs)
unfolding verticals verticals_n
verticals_lower L hs =
    ap (λ (ts : List (Tip ℤ)). pairs (by_column L ts)) (tips_lower L hs)
    ∙ ap pairs (columns_lower L (tips_of hs))
    ∙ pairs_lower L (by_x (suc (2 * L)) (tips_of hs))

pub verticals_of : (L : ℕ) (g : ℤ → ℤ → Bool) → Within L g → verticals L (kind_of L 0 (level g)) ≡ kind_of L 1 (upright g)
verticals_of L g w =
    ap (verticals L) (levels_view L g w)
    ∙ verticals_lower L (kind_n 0 (level_n (view L g)) (2 * L))
    ∙ ap (map (lowered L)) (verticals_are (2 * L) (view L g) (within_bounded L g w))
    ∙ sym (uprights_view L g w)

pub result_is : (L : ℕ) (g : ℤ → ℤ → Bool) → Within L g → result L g ≡ kind_of L 0 (level g) ++ verticals L (kind_of L 0 (level g))
unfolding result
result_is L g w = ap (◌++◌ (kind_of L 0 (level g))) (sym (verticals_of L g w))

-- ---- by kind, out of the result

pub result_verticals : (L : ℕ) (g : ℤ → ℤ → Bool) → Within L g → verticals L (those 0 (result L g)) ≡ those 1 (result L g)
result_verticals L g w = ap (verticals L) (those_level L g) ∙ verticals_of L g w ∙ sym (those_upright L g)

-- ---- how many

pub verticals_many : (L : ℕ) (g : ℤ → ℤ → Bool) → Within L g → length (verticals L (kind_of L 0 (level g))) ≡ length (kind_of L 0 (level g))
verticals_many L g w = ap length (verticals_of L g w) ∙ sym (kinds_even L g w)
