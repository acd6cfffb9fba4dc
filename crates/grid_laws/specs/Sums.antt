-- Sums over ranges and lists.
use Rattle.std.specs.Prelude.{◌≡◌, refl, List, ℕ, zero, suc, ◌+◌, ◌-◌, ◌≤◌, ◌<◌}
use Rattle.std.proofs.Common.{sym, ap, ap₂, ◌∙◌, arith, suc-add, zero-add, add-zero, add-suc}
use Rattle.meaning.specs.Records.{each}
use Rattle.meaning.specs.Area.{total}
use Rattle.basic_laws.specs.Sums.{sum_of, sum_append}

pub total_same : (f g : ℕ → ℕ) (a n : ℕ) → ((k : ℕ) → a ≤ k → k < a + n → f k ≡ g k) → total f a n ≡ total g a n
unfolding total
total_same f g a zero h = refl
total_same f g a (suc n) h = ap₂ ◌+◌ (h a (omega arith) (omega arith)) (total_same f g (suc a) n (λ k p q. h k (omega arith) (omega arith)))

pub total_zero : (f : ℕ → ℕ) (a n : ℕ) → ((k : ℕ) → a ≤ k → k < a + n → f k ≡ 0) → total f a n ≡ 0
unfolding total
total_zero f a zero h = refl
total_zero f a (suc n) h = ap₂ ◌+◌ (h a (omega arith) (omega arith)) (total_zero f (suc a) n (λ k p q. h k (omega arith) (omega arith)))

pub total_add : (f g : ℕ → ℕ) (a n : ℕ) → total (λ k. f k + g k) a n ≡ total f a n + total g a n
unfolding total
total_add f g a zero = refl
total_add f g a (suc n) = omega (arith, total_add f g (suc a) n)

pub total_split : (f : ℕ → ℕ) (a n m : ℕ) → total f a (n + m) ≡ total f a n + total f (a + n) m
unfolding total
total_split f a zero m = rw (zero-add m, add-zero a) (sym (zero-add (total f a m)))
total_split f a (suc n) m = rw (suc-add, add-suc, ← suc-add) (omega (arith, total_split f (suc a) n m))

pub total_swap : (f : ℕ → ℕ → ℕ) (a n b m : ℕ) → total (λ x. total (f x) b m) a n ≡ total (λ y. total (λ x. f x y) a n) b m
unfolding total
total_swap f a zero b m = sym (total_zero (λ y. 0) b m (λ k p q. refl))
total_swap f a (suc n) b m = ap (◌+◌ (total (f a) b m)) (total_swap f (suc a) n b m) ∙ sym (total_add (f a) (λ y. total (λ x. f x y) (suc a) n) b m)

-- only one term
pub total_one : (f : ℕ → ℕ) (a n i : ℕ) → a ≤ i → i < a + n → ((k : ℕ) → a ≤ k → k < a + n → (k ≡ i → ⊥) → f k ≡ 0) → total f a n ≡ f i
unfolding total
total_one f a n i p q h =
    let e : n ≡ (i - a) + suc (a + n - suc i) = omega arith in
    let w : a + (i - a) ≡ i = omega arith in
    let s : total f a n ≡ total f a (i - a) + (f i + total f (suc i) (a + n - suc i)) =
    ap (total f a) e ∙ (total_split f a (i - a) (suc (a + n - suc i)) ∙ ap (λ (z : ℕ). total f a (i - a) + total f z (suc (a + n - suc i))) w) in
    let z₁ : total f a (i - a) ≡ 0 = total_zero f a (i - a) (λ k u v. h k u (omega arith) (omega arith)) in
    let z₂ : total f (suc i) (a + n - suc i) ≡ 0 = total_zero f (suc i) (a + n - suc i) (λ k u v. h k (omega arith) (omega arith) (omega arith)) in
    omega arith

pub sum_each : {A : Type 0} (f : A → ℕ) (h : ℕ → List A) (a n : ℕ) → sum_of f (each h a n) ≡ total (λ p. sum_of f (h p)) a n
unfolding sum_of each total
sum_each f h a zero = refl
sum_each f h a (suc n) = sum_append f (h a) (each h (suc a) n) ∙ ap (◌+◌ (sum_of f (h a))) (sum_each f h (suc a) n)
