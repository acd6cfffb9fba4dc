-- Stores in a list one after the other, and what is left of a list. Assumes nothing.
--
--   sets_append    a run of stores, and another right after it, are one
--   sets_snoc      the same where the other is one store
--   sets_all       stores from the front on, where there is room
--   drop_past, left-over   what is left of a list after its front
use Rattle.std.specs.Prelude.{◌≡◌, refl, List, [], ◌∷◌, ◌++◌, ℕ, suc, ◌+◌, ◌≤◌, length, drop, set}
use Rattle.std.proofs.Common.{sym, ap, ◌∙◌, arith, drop_at, drop-drop}
use Rattle.std.proofs.lemmas.List.Edits.{sets, sets-eq}

module _ {B : Type 0} where
  pub sets_append : (x y out : List B) (n : ℕ) → sets (sets out n x) (n + length x) y ≡ sets out n (x ++ y)
  sets_append [] y out n = ap (λ (m : ℕ). sets out m y) (omega arith)
  sets_append (a ∷ x) y out n =
      let e : n + suc (length x) ≡ suc n + length x = omega arith in
      ap (λ (m : ℕ). sets (sets (set out n a) (suc n) x) m y) e ∙ sets_append x y (set out n a) (suc n)

  pub sets_snoc : (x out : List B) (n : ℕ) (b : B) → n ≡ length x → set (sets out 0 x) n b ≡ sets out 0 (x ++ b ∷ [])
  sets_snoc x out n b e =
      let k : n ≡ 0 + length x = omega arith in
      ap (λ (m : ℕ). sets (sets out 0 x) m (b ∷ [])) k ∙ sets_append x (b ∷ []) out 0

  pub sets_all : (x out : List B) → length x ≤ length out → sets out 0 x ≡ x ++ drop (length x) out
  sets_all x out h = let e : 0 + length x ≡ length x = omega arith in sets-eq x out 0 (omega arith) ∙ ap (λ (m : ℕ). x ++ drop m out) e

  pub drop_past : (f w rest : List B) (at : ℕ) → drop at f ≡ w ++ rest → drop (at + length w) f ≡ rest
  drop_past f w rest at d = sym (drop-drop (length w) at f) ∙ ap (drop (length w)) d ∙ drop_at w rest (length w) refl

  -- a list is the front l and what stands from `at` on, which begins with w
  pub left_over : (l f w rest : List B) (at next : ℕ) → at ≡ length l → f ≡ l ++ drop at f → drop at f ≡ w ++ rest → next ≡ at + length w → drop next f ≡ rest
  left_over l f w rest at next a e d n = ap (λ (k : ℕ). drop k f) n ∙ drop_past f w rest at d
