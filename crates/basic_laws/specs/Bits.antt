-- The binary digits of a number. Assumes nothing.
--
--   bit_at m l            the digit of m that counts 2^l is 1
--   of_bits n f           the number whose digits below n are those of f, and that has no others: the sum of 2^l over the l below n at which f holds
--   of_bits_below         it is below 2^n
--   bit_at_of_bits         its digits are those of f
--   of_bits_bit_at         a number below 2^n is the number of its digits
--   of_bits_same          digits that agree give one number
--   of_bits_step          one digit changes
--   of_bits_has           it is at least the power of a digit that is 1
--   digit_of_bits         its digits as numbers are those of f
--   pick_bit             a number that counts where a test holds, as a product
use Rattle.std.specs.Prelude.{◌≡◌, refl, Bool, true, false, ℕ, zero, suc, ◌+◌, ◌*◌, ◌-◌, ◌/◌, ◌%◌, ◌^◌, ◌≤◌, ◌<◌, eqb}
use Rattle.std.proofs.Common.{sym, ap, ap₂, ◌∙◌, mod-lt, mod-eq_of_lt, add_comm, arith, add-one, pow-add, eq-eqb, ne_eqb}
use Rattle.std.proofs.Math.Decide.{ℕ_discrete}
use Rattle.std.proofs.Math.Pow.{high, low, field, mod-mod-pow}
use Rattle.std.proofs.lemmas.Nat.{mod-pow-add}
use Rattle.meaning.specs.Numbers.{bit, pick}

unfoldable pub bit_at : ℕ → ℕ → Bool
bit_at m l = eqb (m / 2 ^ l % 2) 1

unfoldable pub of_bits : ℕ → (ℕ → Bool) → ℕ
of_bits zero f = 0
of_bits (suc n) f = of_bits n f + pick (f n) (2 ^ n) 0

pick_le : (b : Bool) (n : ℕ) → pick b n 0 ≤ n
pick_le true n = omega arith
pick_le false n = omega arith

pub pick_bit : (b : Bool) (n : ℕ) → pick b n 0 ≡ bit b * n
pick_bit true n = omega arith
pick_bit false n = omega arith

double : (n : ℕ) → 2 ^ suc n ≡ 2 ^ n + 2 ^ n
double n = ap (λ k. 2 ^ k) (sym (add-one n)) ∙ pow-add 2 n 1 ∙ omega arith

pub of_bits_below : (n : ℕ) (f : ℕ → Bool) → of_bits n f < 2 ^ n
unfolding of_bits
of_bits_below zero f = omega arith
of_bits_below (suc n) f = omega (arith, of_bits_below n f, pick_le (f n) (2 ^ n), double n)

pub of_bits_same : (n : ℕ) (f g : ℕ → Bool) → ((l : ℕ) → l < n → f l ≡ g l) → of_bits n f ≡ of_bits n g
unfolding of_bits
of_bits_same zero f g h = refl
of_bits_same (suc n) f g h = ap₂ (λ (a : ℕ) (b : Bool). a + pick b (2 ^ n) 0) (of_bits_same n f g (λ l u. h l (omega arith))) (h n (omega arith))

pub of_bits_step : (n l : ℕ) (f g : ℕ → Bool) → l < n → ((k : ℕ) → k < n → (k ≡ l → ⊥) → g k ≡ f k) → of_bits n g + pick (f l) (2 ^ l) 0 ≡ of_bits n f + pick (g l) (2 ^ l) 0
unfolding of_bits
of_bits_step zero l f g h e = absurd (omega arith)
of_bits_step (suc n) l f g h e = go (ℕ_discrete n l) (λ u. of_bits_step n l f g u (λ k v w. e k (omega arith) w))
  where
    go : Dec (n ≡ l) → (l < n → of_bits n g + pick (f l) (2 ^ l) 0 ≡ of_bits n f + pick (g l) (2 ^ l) 0)
        → (of_bits n g + pick (g n) (2 ^ n) 0) + pick (f l) (2 ^ l) 0 ≡ (of_bits n f + pick (f n) (2 ^ n) 0) + pick (g l) (2 ^ l) 0
    go (yes q) ih =
        let s : of_bits n g ≡ of_bits n f = of_bits_same n g f (λ k u. e k (omega arith) (λ w. omega arith)) in
        rw (s, q) (omega arith)
    go (no q) ih =
        let s : pick (g n) (2 ^ n) 0 ≡ pick (f n) (2 ^ n) 0 = ap (λ (b : Bool). pick b (2 ^ n) 0) (e n (omega arith) q) in
        omega (arith, ih (omega arith))

pub of_bits_has : (n l : ℕ) (f : ℕ → Bool) → l < n → pick (f l) (2 ^ l) 0 ≤ of_bits n f
unfolding of_bits
of_bits_has zero l f h = absurd (omega arith)
of_bits_has (suc n) l f h = go (ℕ_discrete n l) (λ u. of_bits_has n l f u)
  where
    go : Dec (n ≡ l) → (l < n → pick (f l) (2 ^ l) 0 ≤ of_bits n f) → pick (f l) (2 ^ l) 0 ≤ of_bits n f + pick (f n) (2 ^ n) 0
    go (yes q) ih = rw q (omega arith)
    go (no q) ih = omega (arith, ih (omega arith))

-- ---- the digits of the number of digits

-- a digit is one of the number's rest by a higher power
digit_low : (m l : ℕ) → m / 2 ^ l % 2 ≡ m % 2 ^ (1 + l) / 2 ^ l
digit_low m l = sym (field m 1 l)

digit_same : (m k l : ℕ) → m % 2 ^ (1 + l) ≡ k % 2 ^ (1 + l) → bit_at m l ≡ bit_at k l
unfolding bit_at
digit_same m k l e = ap (λ (x : ℕ). eqb x 1) (digit_low m l ∙ ap (λ (x : ℕ). x / 2 ^ l) e ∙ sym (digit_low k l))

-- what is added at a higher power is not seen
digit_below : (n l hi lo : ℕ) → l < n → lo < 2 ^ n → bit_at (lo + hi * 2 ^ n) l ≡ bit_at lo l
digit_below n l hi lo h b =
    digit_same (lo + hi * 2 ^ n) lo l (sym (up (lo + hi * 2 ^ n)) ∙ ap (λ (x : ℕ). x % 2 ^ (1 + l)) (ap (λ (x : ℕ). x % 2 ^ n) (add_comm lo (hi * 2 ^ n)) ∙ low hi n b))
  where
    up : (m : ℕ) → m % 2 ^ n % 2 ^ (1 + l) ≡ m % 2 ^ (1 + l)
    up m = let e : n - (1 + l) + (1 + l) ≡ n = omega arith in ap (λ (x : ℕ). m % 2 ^ x % 2 ^ (1 + l)) (sym e) ∙ mod-mod-pow m (n - (1 + l)) (1 + l)

digit_top : (n lo : ℕ) (v : Bool) → lo < 2 ^ n → bit_at (lo + bit v * 2 ^ n) n ≡ v
unfolding bit_at
digit_top n lo v b = ap (λ (x : ℕ). eqb (x % 2) 1) (ap (λ (x : ℕ). x / 2 ^ n) (add_comm lo (bit v * 2 ^ n)) ∙ high (bit v) n b) ∙ go v
  where
    go : (v : Bool) → eqb (bit v % 2) 1 ≡ v
    go true = refl
    go false = refl

pub bit_at_of_bits : (n : ℕ) (f : ℕ → Bool) (l : ℕ) → l < n → bit_at (of_bits n f) l ≡ f l
unfolding of_bits
bit_at_of_bits zero f l h = absurd (omega arith)
bit_at_of_bits (suc n) f l h = go (ℕ_discrete n l) (λ u. bit_at_of_bits n f l u)
  where
    go : Dec (n ≡ l) → (l < n → bit_at (of_bits n f) l ≡ f l) → bit_at (of_bits n f + pick (f n) (2 ^ n) 0) l ≡ f l
    go (yes q) ih = rw (pick_bit, ← q) (digit_top n (of_bits n f) (f n) (of_bits_below n f))
    go (no q) ih = rw pick_bit (digit_below n l (bit (f n)) (of_bits n f) (omega arith) (of_bits_below n f) ∙ ih (omega arith))

bit_of : (x : ℕ) → x < 2 → bit (eqb x 1) ≡ x
bit_of x h = go (ℕ_discrete x 1)
  where
    go : Dec (x ≡ 1) → bit (eqb x 1) ≡ x
    go (yes e) = simp (eq-eqb x 1 e) (sym e)
    go (no e) = simp (ne_eqb x 1 e) (omega arith)

pub digit_of_bits : (n : ℕ) (f : ℕ → Bool) (l : ℕ) → l < n → of_bits n f / 2 ^ l % 2 ≡ bit (f l)
unfolding bit_at
digit_of_bits n f l h = sym (bit_of (of_bits n f / 2 ^ l % 2) (mod-lt (of_bits n f / 2 ^ l) (omega arith))) ∙ ap bit (bit_at_of_bits n f l h)

-- ---- the number of the digits of a number

rest_of : (n m : ℕ) → of_bits n (bit_at m) ≡ m % 2 ^ n
unfolding of_bits bit_at
rest_of zero m = let h : m % 1 < 1 = mod-lt m (omega arith) in omega arith
rest_of (suc n) m =
    let d : bit (eqb (m / 2 ^ n % 2) 1) ≡ m / 2 ^ n % 2 = bit_of (m / 2 ^ n % 2) (mod-lt (m / 2 ^ n) (omega arith)) in
    let e : 1 + n ≡ suc n = omega arith in
    ap₂ (λ (a b : ℕ). a + b) (rest_of n m) (pick_bit (eqb (m / 2 ^ n % 2) 1) (2 ^ n) ∙ ap (λ (x : ℕ). x * 2 ^ n) d)
    ∙ add_comm (m % 2 ^ n) (m / 2 ^ n % 2 * 2 ^ n)
    ∙ sym (mod-pow-add m 1 n)
    ∙ ap (λ (k : ℕ). m % 2 ^ k) e

pub of_bits_bit_at : (n m : ℕ) → m < 2 ^ n → of_bits n (bit_at m) ≡ m
of_bits_bit_at n m h = rest_of n m ∙ mod-eq_of_lt h
