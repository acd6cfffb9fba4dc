-- Ends that are opposed, and lists of ends. The vertical records are made of them in proofs/PlaneTips.antt. Assumes nothing.
--
--   Opposed ts       of the 1st and 2nd, the 3rd and 4th, .. of ts one is a `from` and one a `to`, and they lie at one x
--   each_same, keep_append, only_append   of lists
use Rattle.std.specs.Prelude.{◌≡◌, refl, Bool, true, false, not, List, [], ◌∷◌, ◌++◌, ℕ, zero, suc, ◌+◌, ◌≤◌, ◌<◌}
use Rattle.std.proofs.Common.{ap, ap₂, ◌∙◌, arith}
use Rattle.meaning.specs.Records.{each}
use Rattle.vertical_laws.specs.Tips.{Tip, tip, keep_if, only}

-- ---- lists

pub each_same : {A : Type 0} (h k : ℕ → List A) (a n : ℕ) → ((i : ℕ) → a ≤ i → i < a + n → h i ≡ k i) → each h a n ≡ each k a n
unfolding each
each_same h k a zero e = refl
each_same h k a (suc n) e = ap₂ (λ xs ys. xs ++ ys) (e a (omega arith) (omega arith)) (each_same h k (suc a) n (λ i p q. e i (omega arith) (omega arith)))

pub keep_append : {A : Type 0} (c : Bool) (x : A) (xs ys : List A) → keep_if c x (xs ++ ys) ≡ keep_if c x xs ++ ys
keep_append true x xs ys = refl
keep_append false x xs ys = refl

pub only_append : {A : Type 0} (p : A → Bool) (ts us : List (Tip A)) → only p (ts ++ us) ≡ only p ts ++ only p us
unfolding only
only_append p [] us = refl
only_append p (tip x y b ∷ ts) us = ap (keep_if (p x) (tip x y b)) (only_append p ts us) ∙ keep_append (p x) (tip x y b) (only p ts) (only p us)

-- ---- in each pair one is a `from`, the other a `to`

abbrev pub Opposed : {A : Type 0} → List (Tip A) → Type 0
Opposed [] = Unit {0}
Opposed (t ∷ []) = ⊥
Opposed (tip x y b ∷ tip x' y' b' ∷ ts) = (x ≡ x') × (not b ≡ b') × Opposed ts
