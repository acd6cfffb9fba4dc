-- Complete: what is in the grammar is accepted, with its expression and the place after it. Assumes nothing.
--
--   complete    a text of a level, anywhere in a text, is read
--   closed      a sum before a closing parenthesis is read up to it
use Rattle.std.specs.Prelude.{◌≡◌, refl, Bool, true, false, List, [], ◌∷◌, ◌++◌, ℕ, suc, ◌+◌, length, get_or, drop}
use Rattle.std.proofs.Common.{sym, ap, ◌∙◌, append_assoc, add-zero, arith, length-append, drop-drop, get_or-drop}
use Prim.Native.Char.{code}
use Rattle.meaning.specs.Expression.{Operator, Expr, negated, joined, and, and_not, or, exclusive_or, Level, factor, product, sum, Is, a_letter, not_before, in_parentheses, one_factor, times, minus, one_product, plus, caret}
use Rattle.basic_laws.specs.Stores.{drop_past}
use Rattle.expression_laws.specs.Reader.{got, tight, loose, operator_of, Part, a_factor, a_product, a_sum, product_on, sum_on, reads}
use Rattle.expression_laws.specs.Steps.{at_not, at_open, at_letter, Chain, product_chain, sum_chain, chain_starts, chain_stops, chain_goes_on}

-- ---- where a text stands in another

head_at : (s : List ℕ) (at : ℕ) {b : ℕ} {rest : List ℕ} → drop at s ≡ b ∷ rest → get_or s at 0 ≡ b
head_at s at e = ap (λ n. get_or s n 0) (sym (add-zero at)) ∙ sym (get_or-drop at s 0 0) ∙ ap (λ l. get_or l 0 0) e

tail_at : (s : List ℕ) (at : ℕ) {b : ℕ} {rest : List ℕ} → drop at s ≡ b ∷ rest → drop (at + 1) s ≡ rest
tail_at s at e = sym (drop-drop 1 at s) ∙ ap (drop 1) e

module _ (s : List ℕ) where
  abbrev Reads : Level → ℕ → ℕ → Expr → Type 0
  Reads factor at i e = reads s a_factor at ≡ got e i
  Reads product at i e = reads s a_product at ≡ reads s (product_on e) i
  Reads sum at i e = tight (get_or s i 0) ≡ false → reads s a_sum at ≡ reads s (sum_on e) i

  -- the text t, the byte b of the operator o and the text u
  module _ (b : ℕ) (o : Operator) (b-is : operator_of b ≡ o) (at : ℕ) (t u : List ℕ) (rest : List ℕ) (d : drop at s ≡ (t ++ (b ∷ u)) ++ rest) where
    op_at : drop (at + length t) s ≡ b ∷ (u ++ rest)
    op_at = drop_past s t _ at (d ∙ append_assoc t (b ∷ u) rest)

    op_is : get_or s (at + length t) 0 ≡ b
    op_is = head_at s (at + length t) op_at

    ends_at : at + length t + 1 + length u ≡ at + length (t ++ (b ∷ u))
    ends_at = omega (arith, length-append t (b ∷ u))

    -- one more item of a chain
    more : {whole item : Part} {on : Expr → Part} {joins : ℕ → Bool} (C : Chain s whole item on joins) (e f : Expr)
        → joins b ≡ true
        → reads s whole at ≡ reads s (on e) (at + length t)
        → reads s item (at + length t + 1) ≡ got f (at + length t + 1 + length u)
        → reads s whole at ≡ reads s (on (joined o e f)) (at + length (t ++ (b ∷ u)))
    more {whole} {item} {on} {joins} C e f j h k =
        chain_goes_on C at (at + length t) e h (ap joins op_is ∙ j) k
        ∙ ap (λ z. reads s (on (joined z e f)) (at + length t + 1 + length u)) (ap operator_of op_is ∙ b-is)
        ∙ ap (λ z. reads s (on (joined o e f)) z) ends_at

    more_sum : (e f : Expr) → loose b ≡ true → tight b ≡ false
        → Reads sum at (at + length t) e → Reads product (at + length t + 1) (at + length t + 1 + length u) f → Reads sum at (at + length (t ++ (b ∷ u))) (joined o e f)
    more_sum e f j n h k stop =
        more (sum_chain s) e f j (h (ap tight op_is ∙ n)) (chain_stops (product_chain s) (at + length t + 1) k (ap (λ z. tight (get_or s z 0)) ends_at ∙ stop))

  pub complete : {l : Level} {t : List ℕ} {e : Expr} → Is l t e → (at : ℕ) (rest : List ℕ) → drop at s ≡ t ++ rest → Reads l at (at + length t) e
  complete (a_letter {l} h) at rest d = at_letter s at l h (head_at s at d)
  complete (not_before {t} {e} is) at rest d =
      let k = complete is (at + 1) rest (tail_at s at d) in
      let n : at + 1 + length t ≡ at + suc (length t) = omega arith in
      at_not s at (head_at s at d) ∙ simp k (ap (λ z. got (negated e) z) n)
  complete (in_parentheses {t} {e} is) at rest d =
      let d' : drop (at + 1) s ≡ t ++ (code ")" ∷ rest) = tail_at s at d ∙ append_assoc t (code ")" ∷ []) rest in
      let h = head_at s (at + 1 + length t) (drop_past s t _ (at + 1) d') in
      let k = chain_stops (sum_chain s) (at + 1) (complete is (at + 1) (code ")" ∷ rest) d' (ap tight h)) (ap loose h) in
      let n : at + 1 + length t + 1 ≡ at + suc (length (t ++ (code ")" ∷ []))) = omega (arith, length-append t (code ")" ∷ [])) in
      at_open s at (head_at s at d) ∙ simp (k, h) (ap (λ z. got e z) n)
  complete (one_factor {t} {e} is) at rest d = chain_starts (product_chain s) at (complete is at rest d)
  complete (times {t} {u} {e} {f} p q) at rest d =
      more (code "*") and refl at t u rest d (product_chain s) e f refl (complete p at (code "*" ∷ (u ++ rest)) (d ∙ append_assoc t (code "*" ∷ u) rest))
      (complete q (at + length t + 1) rest (tail_at s (at + length t) (op_at (code "*") and refl at t u rest d)))
  complete (minus {t} {u} {e} {f} p q) at rest d =
      more (code "-") and_not refl at t u rest d (product_chain s) e f refl (complete p at (code "-" ∷ (u ++ rest)) (d ∙ append_assoc t (code "-" ∷ u) rest))
      (complete q (at + length t + 1) rest (tail_at s (at + length t) (op_at (code "-") and_not refl at t u rest d)))
  complete (one_product {t} {e} is) at rest d = λ h. chain_starts (sum_chain s) at (chain_stops (product_chain s) at (complete is at rest d) h)
  complete (plus {t} {u} {e} {f} p q) at rest d =
      more_sum (code "+") or refl at t u rest d e f refl refl (complete p at (code "+" ∷ (u ++ rest)) (d ∙ append_assoc t (code "+" ∷ u) rest))
      (complete q (at + length t + 1) rest (tail_at s (at + length t) (op_at (code "+") or refl at t u rest d)))
  complete (caret {t} {u} {e} {f} p q) at rest d =
      more_sum (code "^") exclusive_or refl at t u rest d e f refl refl (complete p at (code "^" ∷ (u ++ rest)) (d ∙ append_assoc t (code "^" ∷ u) rest))
      (complete q (at + length t + 1) rest (tail_at s (at + length t) (op_at (code "^") exclusive_or refl at t u rest d)))

  pub closed : {t : List ℕ} {e : Expr} → Is sum t e → (at : ℕ) (rest : List ℕ) → drop at s ≡ t ++ (code ")" ∷ rest) → reads s a_sum at ≡ got e (at + length t)
  closed {t} is at rest d =
      let h = head_at s (at + length t) (drop_past s t _ at d) in
      chain_stops (sum_chain s) at (complete is at (code ")" ∷ rest) d (ap tight h)) (ap loose h)
