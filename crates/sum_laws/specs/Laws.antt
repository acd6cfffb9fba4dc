-- Laws of sums, and of a store in a list. Assumes nothing.
--
--   below_or                          one number is below another, or not
--   after_set                         what stands at a place after a store
--   sum_split, sum_take               a sum over a list in parts
--   sum_to_same, sum_to_twice           sums over numbers, term by term and two terms at a time
--   sum_is                            a sum over a list is one over its places
--   sum_same, sum_le                  of terms that are equal, or at most one
--   perm_refl                         a list has its own members
--   prefix_sum                        what a walk over a sorted list has added: the sum over all members that pass a test, where just the first m of the sorted ones do
use Rattle.std.specs.Prelude.{◌≡◌, refl, ◌≢◌, ◌⊎◌, Bool, true, false, List, [], ◌∷◌, ℕ, zero, suc, ◌+◌, ◌<◌, ◌≤◌, length, get_or, set, take, drop}
use Rattle.std.proofs.Common.{sym, ap, ◌∙◌, inl, inr, add-one, arith, take-append-drop, length-drop, length-take-le, get_or-take, get_or-drop, get_or-set_same, get_or-set_other}
use Rattle.std.proofs.Math.Decide.{ℕ_discrete, dec_lt}
use Rattle.std.proofs.Math.Seq.{take-suc, take-length}
use Rattle.meaning.specs.Numbers.{pick}
use Rattle.basic_laws.specs.Sums.{sum_of, sum_append, sum_all}
use Rattle.basic_laws.specs.Lists.{all_of}
use Rattle.sum_laws.specs.Sums.{sum_to, Perm}

pub below_or : (p q : ℕ) → (p < q) ⊎ (q ≤ p)
below_or p q = go (dec_lt p q)
  where
    go : Dec (p < q) → (p < q) ⊎ (q ≤ p)
    go (yes h) = inl h
    go (no n) = inr (omega arith)

pub after_set : (a : List ℕ) (j v p : ℕ) → j < length a → ((p ≡ j) × (get_or (set a j v) p 0 ≡ v)) ⊎ ((p ≢ j) × (get_or (set a j v) p 0 ≡ get_or a p 0))
after_set a j v p h = go (ℕ_discrete p j)
  where
    go : Dec (p ≡ j) → ((p ≡ j) × (get_or (set a j v) p 0 ≡ v)) ⊎ ((p ≢ j) × (get_or (set a j v) p 0 ≡ get_or a p 0))
    go (yes e) = inl (e, rw e (get_or-set_same a j v 0 h))
    go (no n) = inr (n, get_or-set_other a j p v 0 n)

module _ {A : Type 0} (f : A → ℕ) where
  pub sum_split : (k : ℕ) (l : List A) → sum_of f (take k l) + sum_of f (drop k l) ≡ sum_of f l
  sum_split k l = sym (sum_append f (take k l) (drop k l)) ∙ ap (sum_of f) (take-append-drop k l)

  pub sum_take : (l : List A) (k : ℕ) (d : A) → k < length l → sum_of f (take (k + 1) l) ≡ sum_of f (take k l) + f (get_or l k d)
  unfolding sum_of
  sum_take l k d h = rw (add-one, take-suc l k d h, sum_append) (omega arith)

pub sum_to_same : (n : ℕ) (g h : ℕ → ℕ) → ((i : ℕ) → i < n → g i ≡ h i) → sum_to n g ≡ sum_to n h
unfolding sum_to
sum_to_same zero g h e = refl
sum_to_same (suc n) g h e = omega (arith, sum_to_same n g h (λ i l. e i (omega arith)), e n (omega arith))

pub sum_to_twice : (n : ℕ) (h : ℕ → ℕ) → sum_to (n + n) h ≡ sum_to n (λ j. h (j + j) + h (j + j + 1))
unfolding sum_to
sum_to_twice zero h = refl
sum_to_twice (suc n) h = ap (λ m. sum_to m h) (twice_suc n) ∙ omega (arith, sum_to_twice n h, ap h (one_more n))
  where
    twice_suc : (n : ℕ) → suc n + suc n ≡ suc (suc (n + n))
    twice_suc n = omega arith

    one_more : (n : ℕ) → n + n + 1 ≡ suc (n + n)
    one_more n = omega arith

sum_places : {A : Type 0} (f : A → ℕ) (xs : List A) (d : A) (n : ℕ) → n ≤ length xs → sum_of f (take n xs) ≡ sum_to n (λ i. f (get_or xs i d))
unfolding sum_of sum_to
sum_places f xs d zero h = refl
sum_places f xs d (suc n) h =
    ap (λ k. sum_of f (take k xs)) (sym (add-one n)) ∙ sum_take f xs n d h ∙ ap (λ k. k + f (get_or xs n d)) (sum_places f xs d n (omega arith))

pub sum_is : {A : Type 0} (f : A → ℕ) (xs : List A) (d : A) → sum_of f xs ≡ sum_to (length xs) (λ i. f (get_or xs i d))
sum_is f xs d = ap (sum_of f) (sym (take-length xs)) ∙ sum_places f xs d (length xs) (omega arith)

pub sum_same : {A : Type 0} (f g : A → ℕ) (xs : List A) (d : A) → ((p : ℕ) → p < length xs → f (get_or xs p d) ≡ g (get_or xs p d)) → sum_of f xs ≡ sum_of g xs
sum_same f g xs d e = sum_all f g xs (all_of (λ x. f x ≡ g x) xs d e)

sum_zero : {A : Type 0} (xs : List A) → sum_of (λ x. 0) xs ≡ 0
unfolding sum_of
sum_zero [] = refl
sum_zero (x ∷ xs) = omega (arith, sum_zero xs)

pub prefix_sum : (words sorted : List ℕ) (m : ℕ) (t : ℕ → Bool) (g : ℕ → ℕ) → Perm sorted words → m ≤ length sorted
    → ((p : ℕ) → p < m → t (get_or sorted p 0) ≡ true) → ((p : ℕ) → m ≤ p → p < length sorted → t (get_or sorted p 0) ≡ false)
    → sum_of g (take m sorted) ≡ sum_of (λ w. pick (t w) (g w) 0) words
prefix_sum words sorted m t g perm fits first rest =
    let f : ℕ → ℕ = λ w. pick (t w) (g w) 0 in
    let passed : sum_of f (take m sorted) ≡ sum_of g (take m sorted) =
    sum_same f g (take m sorted) 0
    (λ p h. let l : p < m = omega (arith, length-take-le m sorted fits) in
    ap (λ b. pick b (g (get_or (take m sorted) p 0)) 0) (ap t (get_or-take m sorted p 0 l) ∙ first p l)) in
    let failed : sum_of f (drop m sorted) ≡ 0 =
    sum_same f (λ x. 0) (drop m sorted) 0
    (λ p h. let l : m + p < length sorted = omega (arith, length-drop m sorted) in
    ap (λ b. pick b (g (get_or (drop m sorted) p 0)) 0) (ap t (get_or-drop m sorted p 0) ∙ rest (m + p) (omega arith) l))
    ∙ sum_zero (drop m sorted) in
    omega (arith, passed, failed, sum_split f m sorted, perm f)

pub sum_le : {A : Type 0} (f : A → ℕ) (xs : List A) → ((x : A) → f x ≤ 1) → sum_of f xs ≤ length xs
unfolding sum_of
sum_le f [] h = omega arith
sum_le f (x ∷ xs) h = omega (arith, h x, sum_le f xs h)

pub perm_refl : {A : Type 0} (xs : List A) → Perm xs xs
perm_refl xs f = refl
