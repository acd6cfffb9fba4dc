-- The refusals of an expression: each row from what shows it, that a text has one answer, an answer that is computed, and what acceptance says. Assumes nothing.
--
--   says_length, says_deep, says_outside, says_unbounded, says_accepted    the rows
--   one_judgement      answers that meet `Judged` are equal
--   answer_to s         the answer, computed
--   answer_to_right     it meets `Judged`
--   Accepted s         what acceptance says: 1 to 64 bytes, not too deep, an expression that does not hold where nothing covers
--   accepted_says      an accepted text is such
--   says_so            and the other way
use Rattle.std.specs.Prelude.{◌≡◌, ◌⊎◌, Bool, true, false, List, [], ◌∷◌, ℕ, zero, suc, ◌+◌, ◌≤◌, ◌<◌, eqb, ltb, length, take}
use Rattle.std.proofs.Math.Path.{refl}
use Rattle.std.proofs.Common.{sym, ap, ◌∙◌, ⊎_elim, arith, eqb-true, ltb-true, ltb-false}
use Rattle.std.proofs.Math.Logic.{inl, inr}
use Rattle.std.proofs.Math.Bool.{true≢false}
use Prim.Native.Char.{code}
use Rattle.std.proofs.Math.Decide.{dec_lt}
use Rattle.std.proofs.lemmas.Bool.{eqb-false}
use Rattle.meaning.specs.Numbers.{bit, pick}
use Rattle.meaning.specs.Answers.{Answer, accepted, expression_length, too_deep, not_in_grammar, holds_on_nothing}
use Rattle.meaning.specs.Expression.{Expr, Handed, nothing, eval, InGrammar, Means, often, Deep, refusals, Judged}
use Rattle.meaning.specs.Edges.{number}
use Rattle.basic_laws.specs.Tables.{single_given, not_given, one_answer}
use Rattle.expression_laws.specs.Reader.{Read, got, refused, a_sum, reads}
use Rattle.expression_laws.specs.Meanings.{read_whole, cut_short, not_read, one_value, not_outside, means_at}

-- ---- the rows

pub says_length : (s : List ℕ) → (length s ≡ 0) ⊎ (64 < length s) → Judged s expression_length
unfolding Judged
says_length s h = inl (h, refl)

module _ (s : List ℕ) (low : length s ≡ 0 → ⊥) (high : length s ≤ 64) where
  sized : (length s ≡ 0) ⊎ (64 < length s) → ⊥
  sized = ⊎_elim low (λ h. omega arith)

  pub says_deep : Deep s → Judged s too_deep
  unfolding Judged
  says_deep d = inr (not_given expression_length sized, inl (d, refl))

  module _ (flat : Deep s → ⊥) where
    pub says_outside : (InGrammar s → ⊥) → Judged s not_in_grammar
    unfolding Judged
    says_outside out = inr (not_given expression_length sized, inr (not_given too_deep flat, inl (out, refl)))

    pub says_unbounded : Means s nothing true → Judged s holds_on_nothing
    unfolding Judged
    says_unbounded m =
        inr (not_given expression_length sized, inr (not_given too_deep flat, inr (not_given not_in_grammar (λ out. out (m.expr, m.is)), inl (m, refl))))

    pub says_accepted : Means s nothing false → Judged s (accepted 0)
    unfolding Judged
    says_accepted m =
        inr (
          not_given expression_length sized,
          inr (
            not_given too_deep flat,
            inr (not_given not_in_grammar (λ out. out (m.expr, m.is)), inr (not_given holds_on_nothing (λ h. true≢false (one_value s h m)), refl)),
          ),
        )

pub one_judgement : (s : List ℕ) (r q : Answer) → Judged s r → Judged s q → r ≡ q
unfolding Judged
one_judgement s =
    one_answer (refusals s) (λ r. r ≡ accepted 0)
    (single_given _ expression_length, (single_given _ too_deep, (single_given _ not_in_grammar, (single_given _ holds_on_nothing, tt)))) (λ r q x y. x ∙ sym y)

-- ---- the answer, computed

-- is some beginning too deep, after o opening and c closing parentheses?
unfoldable deep_after : List ℕ → ℕ → ℕ → Bool
deep_after [] o c = ltb (c + 16) o
deep_after (x ∷ xs) o c = elim (ltb (c + 16) o) [ true ↦ true | false ↦ deep_after xs (o + bit (eqb x (code "("))) (c + bit (eqb x (code ")"))) ]

DeepAfter : List ℕ → ℕ → ℕ → Type 0
DeepAfter s o c = (k : ℕ) × (k ≤ length s) × (c + often (code ")") (take k s) + 16 < o + often (code "(") (take k s))

deep_after_right : (s : List ℕ) (o c : ℕ) (b : Bool) → deep_after s o c ≡ b → (b ≡ true → DeepAfter s o c) × (b ≡ false → DeepAfter s o c → ⊥)
unfolding deep_after DeepAfter often number
deep_after_right [] o c b e =
    ((λ t. (0, omega arith, let h = ltb-true (c + 16) o (e ∙ t) in omega arith)), (λ t d. go d.0 d.2 (ltb-false (c + 16) o (e ∙ t))))
  where
    go : (k : ℕ) → c + often (code ")") (take k []) + 16 < o + often (code "(") (take k []) → o ≤ c + 16 → ⊥
    go zero h l = omega arith
    go (suc k) h l = omega arith
deep_after_right (x ∷ xs) o c b e = go (ltb (c + 16) o) refl e (deep_after_right xs (o + bit (eqb x (code "("))) (c + bit (eqb x (code ")"))) b)
  where
    later : (k : ℕ) → k ≤ suc (length xs) → c + often (code ")") (take k (x ∷ xs)) + 16 < o + often (code "(") (take k (x ∷ xs)) → o ≤ c + 16
        → DeepAfter xs (o + bit (eqb x (code "("))) (c + bit (eqb x (code ")")))
    later zero l h n = absurd (omega arith)
    later (suc k) l h n = (k, omega arith, omega arith)

    go : (y : Bool) → ltb (c + 16) o ≡ y → elim y [ true ↦ true | false ↦ deep_after xs (o + bit (eqb x (code "("))) (c + bit (eqb x (code ")"))) ] ≡ b
        → (deep_after xs (o + bit (eqb x (code "("))) (c + bit (eqb x (code ")"))) ≡ b
        → (b ≡ true → DeepAfter xs (o + bit (eqb x (code "("))) (c + bit (eqb x (code ")"))))
        × (b ≡ false → DeepAfter xs (o + bit (eqb x (code "("))) (c + bit (eqb x (code ")"))) → ⊥))
        → (b ≡ true → DeepAfter (x ∷ xs) o c) × (b ≡ false → DeepAfter (x ∷ xs) o c → ⊥)
    go true t q ih = ((λ _. (0, omega arith, let h = ltb-true (c + 16) o t in omega arith)), (λ f _. true≢false (q ∙ f)))
    go false t q ih = (
      (λ u. let d = (ih q).0 u in let l = d.1 in let h = d.2 in (suc d.0, omega arith, omega arith)),
      (λ u d. (ih q).1 u (later d.0 d.1 d.2 (ltb-false (c + 16) o t))),
    )

is_deep : (s : List ℕ) → deep_after s 0 0 ≡ true → Deep s
unfolding Deep DeepAfter
is_deep s e = let d = (deep_after_right s 0 0 true e).0 refl in let h = d.2 in (d.0, d.1, omega arith)

is_flat : (s : List ℕ) → deep_after s 0 0 ≡ false → Deep s → ⊥
unfolding Deep DeepAfter
is_flat s e d = let h = d.2 in (deep_after_right s 0 0 false e).1 refl (d.0, d.1, omega arith)

-- what is read of a text of n bytes, as an answer
abbrev by_value : Bool → Answer
by_value true = holds_on_nothing
by_value false = accepted 0

abbrev by_read : ℕ → Read → Answer
by_read n (got e i) = pick (ltb i n) not_in_grammar (by_value (eval nothing e))
by_read n refused = not_in_grammar

abbrev by_size : Bool → Bool → Bool → (Unit {0} → Answer) → Answer
by_size true l d a = expression_length
by_size false true d a = expression_length
by_size false false true a = too_deep
by_size false false false a = a tt

unfoldable pub answer_to : List ℕ → Answer
unfolding deep_after
answer_to s = by_size (eqb (length s) 0) (ltb 64 (length s)) (deep_after s 0 0) (λ _. by_read (length s) (reads s a_sum 0))

module _ (s : List ℕ) where
  module _ (low : length s ≡ 0 → ⊥) (high : length s ≤ 64) (flat : Deep s → ⊥) where
    value_right : (v : Bool) → Means s nothing v → Judged s (by_value v)
    value_right true m = says_unbounded s low high flat m
    value_right false m = says_accepted s low high flat m

    place_right : (e : Expr) (i : ℕ) → reads s a_sum 0 ≡ got e i → (b : Bool) → ltb i (length s) ≡ b → Judged s (pick b not_in_grammar (by_value (eval nothing e)))
    place_right e i q true t = says_outside s low high flat (cut_short s q (ltb-true i (length s) t))
    place_right e i q false t = value_right (eval nothing e) (means_at s (e, read_whole s q (ltb-false i (length s) t)) nothing)

    read_right : (x : Read) → reads s a_sum 0 ≡ x → Judged s (by_read (length s) x)
    read_right (got e i) q = place_right e i q (ltb i (length s)) refl
    read_right refused q = says_outside s low high flat (not_read s q)

  size_right : (a l d : Bool) → eqb (length s) 0 ≡ a → ltb 64 (length s) ≡ l → deep_after s 0 0 ≡ d
      → Judged s (by_size a l d (λ _. by_read (length s) (reads s a_sum 0)))
  size_right true l d e f g = says_length s (inl (eqb-true _ _ e))
  size_right false true d e f g = says_length s (inr (ltb-true _ _ f))
  size_right false false true e f g = says_deep s (eqb-false _ _ e) (ltb-false _ _ f) (is_deep s g)
  size_right false false false e f g = read_right (eqb-false _ _ e) (ltb-false _ _ f) (is_flat s g) (reads s a_sum 0) refl

  pub answer_to_right : Judged s (answer_to s)
  unfolding answer_to
  answer_to_right = size_right _ _ _ refl refl refl

-- ---- what acceptance says

pub record Accepted (s : List ℕ) : Type 0 where
  pub some : length s ≡ 0 → ⊥
  pub short : length s ≤ 64
  pub flat : Deep s → ⊥
  pub bounded : Means s nothing false

not-true : {s : List ℕ} {h : Handed} → (Means s h true → ⊥) → (v : Bool) → Means s h v → Means s h false
not-true f true m = absurd (f m)
not-true f false m = m

other_number : {A : Type 0} (r : Answer) → (r.number ≡ 0 → ⊥) → accepted 0 ≡ r → A
other_number r f e = absurd (f (ap (λ (a : Answer). a.number) (sym e)))

pub accepted_says : (s : List ℕ) → Judged s (accepted 0) → Accepted s
unfolding Judged
accepted_says s (inl x) = other_number expression_length (λ e. omega arith) x.1
accepted_says s (inr (_, inl x)) = other_number too_deep (λ e. omega arith) x.1
accepted_says s (inr (_, inr (_, inl x))) = other_number not_in_grammar (λ e. omega arith) x.1
accepted_says s (inr (_, inr (_, inr (_, inl x)))) = other_number holds_on_nothing (λ e. omega arith) x.1
accepted_says s (inr (size, inr (deep, inr (outside, inr (holds, _))))) =
    record {
      some = λ e. size expression_length (inl e, refl);
      short = short (dec_lt 64 (length s));
      flat = λ d. deep too_deep (d, refl);
      bounded = not-true (λ m. holds holds_on_nothing (m, refl)) _ (means_at s (not_outside s (λ out. outside not_in_grammar (out, refl))) nothing);
    }
  where
    short : Dec (64 < length s) → length s ≤ 64
    short (yes l) = absurd (size expression_length (inr l, refl))
    short (no l) = omega arith

pub says_so : (s : List ℕ) → Accepted s → Judged s (accepted 0)
says_so s a = says_accepted s a.some a.short a.flat a.bounded
