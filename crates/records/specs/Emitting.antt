-- Laws of emitting. Assumes nothing.
--
--   emitted_from   where there is room for all: the records' numbers, and the rest as it was
--   length_numbers, numbers_append, length_emitted
--   Left, left_all, left_one, left_none   a loop that emits: what is left to emit, from here, comes to what was to be emitted from the start
use Rattle.std.specs.Prelude.{ℕ, suc, ◌+◌, ◌*◌, ◌/◌, ◌≤◌, ◌<◌, ◌≡◌, List, [], ◌∷◌, ◌++◌, Bool, true, false, length, set, drop, ltb, ℤ, pos}
use Rattle.std.proofs.Math.Path.{refl}
use Rattle.std.proofs.Common.{sym, ap, ◌∙◌, append_assoc, arith, suc-add, length-set, length-append, lt-ltb}
use Rattle.meaning.specs.Numbers.{limit, step, pick}
use Rattle.meaning.specs.Records.{Record, rec, numbers_of}
use Rattle.records.specs.Put.{numbers, set_four, put_at, emitted, Emitted}

length_put : (out : List ℤ) (n : ℕ) (r : Record ℕ) → length (put_at out n r) ≡ length out
unfolding put_at
length_put out n (rec k p f t) = go (ltb n (length out / 4))
  where
    go : (b : Bool) → length (pick b (set_four out (n * 4) (pos k) (step limit p) (step limit f) (step limit t)) out) ≡ length out
    go true = simp length-set
    go false = refl

pub length_emitted : (out : List ℤ) (n : ℕ) (rs : List (Record ℕ)) → length (emitted out n rs) ≡ length out
unfolding emitted
length_emitted out n [] = refl
length_emitted out n (r ∷ rs) = length_emitted (put_at out n r) (n + 1) rs ∙ length_put out n r

emitted_append : (out : List ℤ) (n : ℕ) (rs ss : List (Record ℕ)) → emitted out n (rs ++ ss) ≡ emitted (emitted out n rs) (n + length rs) ss
unfolding emitted
emitted_append out n [] ss = ap (λ (m : ℕ). emitted out m ss) (omega arith)
emitted_append out n (r ∷ rs) ss = emitted_append (put_at out n r) (n + 1) rs ss ∙ ap (λ (m : ℕ). emitted (emitted (put_at out n r) (n + 1) rs) m ss) (omega arith)

-- ---- where there is room for all

set_past : (p q : List ℤ) (i : ℕ) (a : ℤ) → set (p ++ q) (length p + i) a ≡ p ++ set q i a
set_past [] q i a = ap (λ (k : ℕ). set q k a) (omega arith)
set_past (x ∷ p) q i a = ap (λ (k : ℕ). set (x ∷ (p ++ q)) k a) (suc-add (length p) i) ∙ ap (λ (l : List ℤ). x ∷ l) (set_past p q i a)

set_from : (p q : List ℤ) (m k i : ℕ) (a : ℤ) → length p ≡ m → k ≡ m + i → set (p ++ q) k a ≡ p ++ set q i a
set_from p q m k i a e f = ap (λ (j : ℕ). set (p ++ q) j a) (f ∙ ap (λ (j : ℕ). j + i) (sym e)) ∙ set_past p q i a

four_from : (p q : List ℤ) (x₀ x₁ x₂ x₃ : ℤ) (m : ℕ) (k l f t : ℤ) → length p ≡ m → set_four (p ++ (x₀ ∷ x₁ ∷ x₂ ∷ x₃ ∷ q)) m k l f t ≡ p ++ (k ∷ l ∷ f ∷ t ∷ q)
four_from p q x₀ x₁ x₂ x₃ m k l f t e =
    rw (
      set_from p (x₀ ∷ x₁ ∷ x₂ ∷ x₃ ∷ q) m m 0 k e (omega arith),
      set_from p (k ∷ x₁ ∷ x₂ ∷ x₃ ∷ q) m (m + 1) 1 l e refl,
      set_from p (k ∷ l ∷ x₂ ∷ x₃ ∷ q) m (m + 2) 2 f e refl,
      set_from p (k ∷ l ∷ f ∷ x₃ ∷ q) m (m + 3) 3 t e refl,
    )

-- a record in front of others
numbers_cons : (r : Record ℕ) (rs : List (Record ℕ)) → numbers (r ∷ rs) ≡ numbers (r ∷ []) ++ numbers rs
unfolding numbers numbers_of
numbers_cons (rec k p f t) rs = refl

put_from : (p q : List ℤ) (x₀ x₁ x₂ x₃ : ℤ) (n : ℕ) (r : Record ℕ) → length p ≡ n * 4 → put_at (p ++ (x₀ ∷ x₁ ∷ x₂ ∷ x₃ ∷ q)) n r ≡ p ++ (numbers (r ∷ []) ++ q)
unfolding put_at numbers numbers_of
put_from p q x₀ x₁ x₂ x₃ n (rec k l f t) e =
    let long : length (p ++ (x₀ ∷ x₁ ∷ x₂ ∷ x₃ ∷ q)) ≡ n * 4 + (4 + length q) = length-append p (x₀ ∷ x₁ ∷ x₂ ∷ x₃ ∷ q) ∙ omega arith in
    let room : n < length (p ++ (x₀ ∷ x₁ ∷ x₂ ∷ x₃ ∷ q)) / 4 = omega arith in
    rw (lt-ltb n (length (p ++ (x₀ ∷ x₁ ∷ x₂ ∷ x₃ ∷ q)) / 4) room) (four_from p q x₀ x₁ x₂ x₃ (n * 4) (pos k) (step limit l) (step limit f) (step limit t) e)

four_long : (r : Record ℕ) → length (numbers (r ∷ [])) ≡ 4
unfolding numbers numbers_of
four_long (rec k p f t) = refl

pub emitted_from : (p q : List ℤ) (n : ℕ) (rs : List (Record ℕ)) → length p ≡ n * 4 → length rs * 4 ≤ length q → emitted (p ++ q) n rs ≡ p ++ (numbers rs ++ drop (length rs * 4) q)
unfolding emitted
emitted_from p q n [] e h = unfold numbers numbers_of in refl
emitted_from p [] n (r ∷ rs) e h = absurd (omega arith)
emitted_from p (x₀ ∷ []) n (r ∷ rs) e h = absurd (omega arith)
emitted_from p (x₀ ∷ x₁ ∷ []) n (r ∷ rs) e h = absurd (omega arith)
emitted_from p (x₀ ∷ x₁ ∷ x₂ ∷ []) n (r ∷ rs) e h = absurd (omega arith)
emitted_from p (x₀ ∷ x₁ ∷ x₂ ∷ x₃ ∷ q) n (r ∷ rs) e h =
    let m : List ℤ = p ++ numbers (r ∷ []) in
    let long : length m ≡ (n + 1) * 4 = length-append p (numbers (r ∷ [])) ∙ omega (arith, four_long r) in
    let four : suc (length rs) * 4 ≡ suc (suc (suc (suc (length rs * 4)))) = omega arith in
    rw (put_from p q x₀ x₁ x₂ x₃ n r e, ← append_assoc p (numbers (r ∷ [])) q, four, numbers_cons r rs, append_assoc (numbers (r ∷ [])) (numbers rs))
    (emitted_from m q (n + 1) rs long (omega arith) ∙ append_assoc p (numbers (r ∷ [])) (numbers rs ++ drop (length rs * 4) q))

pub length_numbers : (rs : List (Record ℕ)) → length (numbers rs) ≡ length rs * 4
length_numbers [] = unfold numbers numbers_of in refl
length_numbers (r ∷ rs) = rw (numbers_cons r rs) (length-append (numbers (r ∷ [])) (numbers rs) ∙ omega (arith, four_long r, length_numbers rs))

pub numbers_append : (rs ss : List (Record ℕ)) → numbers (rs ++ ss) ≡ numbers rs ++ numbers ss
numbers_append [] ss = unfold numbers numbers_of in refl
numbers_append (r ∷ rs) ss = numbers_cons r (rs ++ ss) ∙ rw (numbers_append rs ss, numbers_cons r rs) (sym (append_assoc (numbers (r ∷ [])) (numbers rs) (numbers ss)))

-- ---- loops that emit

pub record Left (out₀ : List ℤ) (n₀ : ℕ) (all : List (Record ℕ)) (out : List ℤ) (n : ℕ) (rest : List (Record ℕ)) : Type 0 where
  pub list : emitted out n rest ≡ emitted out₀ n₀ all
  pub count : n + length rest ≡ n₀ + length all

pub left_all : (out : List ℤ) (n : ℕ) (rs : List (Record ℕ)) → Left out n rs out n rs
left_all out n rs = record { list = refl; count = refl }

pub left_one : {out₀ out out' : List ℤ} {n₀ n : ℕ} {all rest : List (Record ℕ)} (r : Record ℕ) → Left out₀ n₀ all out n (r ∷ rest) → out' ≡ put_at out n r → Left out₀ n₀ all out' (n + 1) rest
unfolding emitted
left_one r l e = record { list = rw e l.list; count = omega (arith, l.count) }

pub left_none : {out₀ out : List ℤ} {n₀ n : ℕ} {all : List (Record ℕ)} → Left out₀ n₀ all out n [] → Emitted out₀ n₀ all out n
unfolding emitted
left_none l = record { list = l.list; count = omega (arith, l.count) }
