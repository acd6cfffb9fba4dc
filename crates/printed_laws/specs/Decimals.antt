-- Decimal numbers. Assumes nothing.
--
--   Decimal n t       t is a text of the value n in decimal without leading zeros
--   is_decimal        `decimal n` is one; the only one: `only_decimal`, in proofs/Decimals.antt
--   decimal_small, decimal_large   a number of one digit, and of more
--   small_length, large_length     how many digits each has
--   decimal_length    a number below 10^k has at most k digits
use Rattle.std.specs.Prelude.{◌≡◌, refl, List, [], ◌∷◌, ◌++◌, ℕ, zero, suc, ◌+◌, ◌*◌, ◌/◌, ◌%◌, ◌^◌, ◌≤◌, ◌<◌, length}
use Rattle.std.proofs.Common.{sym, ap, ◌∙◌, subst, div-lt_iff_lt-mul, mul_comm, arith, lit<, length-append}
use Rattle.std.proofs.Math.Nat.{pow-succ'}
use Rattle.std.proofs.Math.Decide.{dec_lt}
use Rattle.meaning.specs.Printed.{digit, digits, decimal}

-- ---- one digit, and one digit more

-- what is left over of f does not show
enough : (f g n : ℕ) → n ≤ f → n ≤ g → digits f n ≡ digits g n
unfolding digits
enough zero zero n p q = refl
enough zero (suc g) zero p q = refl
enough zero (suc g) (suc n) p q = absurd (omega arith)
enough (suc f) zero zero p q = refl
enough (suc f) zero (suc n) p q = absurd (omega arith)
enough (suc f) (suc g) zero p q = refl
enough (suc f) (suc g) (suc n) p q = ap (λ (t : List ℕ). t ++ (digit (suc n % 10) ∷ [])) (enough f g (suc n / 10) (omega arith) (omega arith))

none : (f : ℕ) → digits f 0 ≡ []
unfolding digits
none zero = refl
none (suc f) = refl

some : (f n : ℕ) → 0 < n → n ≤ f → digits f n ≡ decimal n
unfolding digits decimal
some f zero p q = absurd (omega arith)
some zero (suc n) p q = absurd (omega arith)
some (suc f) (suc n) p q = ap (λ (t : List ℕ). t ++ (digit (suc n % 10) ∷ [])) (enough f (suc n) (suc n / 10) (omega arith) (omega arith))

pub decimal_small : (n : ℕ) → n < 10 → decimal n ≡ digit n ∷ []
unfolding decimal
decimal_small n h =
    let q : n / 10 ≡ 0 = omega arith in
    let r : n % 10 ≡ n = omega arith in
    rw (q, none n, r)

pub decimal_large : (n : ℕ) → 10 ≤ n → decimal n ≡ decimal (n / 10) ++ (digit (n % 10) ∷ [])
unfolding decimal
decimal_large n h = ap (λ (t : List ℕ). t ++ (digit (n % 10) ∷ [])) (some n (n / 10) (omega arith) (omega arith))

pub small_length : (n : ℕ) → n < 10 → length (decimal n) ≡ 1
small_length n h = ap length (decimal_small n h)

pub large_length : (n : ℕ) → 10 ≤ n → length (decimal n) ≡ length (decimal (n / 10)) + 1
large_length n h = ap length (decimal_large n h) ∙ length-append (decimal (n / 10)) (digit (n % 10) ∷ [])

-- ---- the only text of its value

-- one digit; or the text of a number that is not 0, and one digit more
pub data Decimal : ℕ → List ℕ → Type 0 where
  one : {d : ℕ} → d < 10 → Decimal d (digit d ∷ [])
  more : {n d : ℕ} {t : List ℕ} → 0 < n → d < 10 → Decimal n t → Decimal (10 * n + d) (t ++ (digit d ∷ []))

pub is_decimal : (n : ℕ) → Decimal n (decimal n)
is_decimal n = go (suc n) n (omega arith)
  where
    go : (f n : ℕ) → n < f → Decimal n (decimal n)
    go zero n h = absurd (omega arith)
    go (suc f) n h = by_size (dec_lt n 10) (go f (n / 10))
      where
        by_size : Dec (n < 10) → (n / 10 < f → Decimal (n / 10) (decimal (n / 10))) → Decimal n (decimal n)
        by_size (yes p) before = subst (Decimal n) (sym (decimal_small n p)) (one p)
        by_size (no p) before =
            let e : 10 * (n / 10) + n % 10 ≡ n = omega arith in
            subst (λ (m : ℕ). Decimal m (decimal n)) e
            (subst (Decimal (10 * (n / 10) + n % 10)) (sym (decimal_large n (omega arith)))
            (more (omega arith) (omega arith) (before (omega arith))))

-- ---- how many digits

fewer : (k n : ℕ) → n < 10 ^ suc (suc k) → n / 10 < 10 ^ suc k
fewer k n h = (div-lt_iff_lt-mul {k = 10} {x = n} {y = 10 ^ suc k} (lit< tt)).1 (rw (pow-succ' 10 (suc k), mul_comm 10 (10 ^ suc k)) at h)

pub decimal_length : (k n : ℕ) → n < 10 ^ suc k → length (decimal n) ≤ suc k
decimal_length zero n h = omega (arith, small_length n h)
decimal_length (suc k) n h = by_size (dec_lt n 10) (decimal_length k (n / 10) (fewer k n h))
  where
    by_size : Dec (n < 10) → length (decimal (n / 10)) ≤ suc k → length (decimal n) ≤ suc (suc k)
    by_size (yes p) before = omega (arith, small_length n p)
    by_size (no p) before = omega (arith, large_length n (omega arith))
