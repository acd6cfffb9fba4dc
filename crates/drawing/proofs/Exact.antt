-- Laws of exact floats: the bits of d / 2^z and its value say the same, one 32-bit float has them, and a cast and multiplications by powers of two make it.
-- They are for an offset d of size up to 2^24 and a zoom z up to 16, where they say so. Assumes nothing.
--
--   exact_value           an exact float has the value d / 2^z
--   value_exact           a 32-bit float with this value is exact
--   exact_unique          of all 32-bit floats one is exact
--   cast_in, cast_exact   the cast of an offset to a float loses nothing
--   power k               the float 2^-k; 0.5 is power 1
--   times                 an exact float times power k is exact
--   halvings k x          x halved k times
--   one_multiplication    the general law: one multiplication by power k gives the same float as k halvings
use mathlib.Core.Path.{◌≡◌, refl, sym, ap, ◌∙◌, subst}
use mathlib.Core.Logic.{inl, inr}
use mathlib.Core.Bool.{Bool, true, false, not}
use Prim.Native.Nat.{ℕ, zero, suc, ◌+◌, ◌-◌, ◌*◌, ◌/◌, ◌%◌, ◌^◌, ◌≤◌, ◌<◌}
use native.Mathlib.Nat.{le_trans, le_of_eq, lt_irrefl, lt_of_lt_of_le, lt_of_le_of_lt, eq-or-lt_of_le, add-zero, mul-one, one-mul, mul_assoc, mul_left_comm, le_of_mul-le-mul_right, lt_of_mul-lt-mul_right, mul-div_cancel}
use native.Mathlib.Omega.{arith}
use lib.IntN.{ℤ, pos, negsuc, nat_abs}
use lib.Dec.{T, leb, eqb, lit≤, lit<, le→leb, lt→ltb}
use lib.Pow.{pow-add, pow_pos, pow_mono, shl_lt}
use borrow.Author.Tests.{le-leb, lt-leb, ne_eqb}
use lib.Ieee.{Float, nan, inf, fin, binary32, is_nan, to_bits, of_bits, of_fields, odd, size, mul, of_int, round, fits, unlike, in_float}
use lib.Ieee.Digits.{size-lt, size_reaches, size-le}
use lib.Ieee.Fits.{of_int-fits, mul-fits}
use lib.Ieee.Bits.{of_bits-fits, to_bits-of_bits, of_bits-to_bits, to_bits-lt}
use lib.Ieee.Back.{round_whole}
use lib.Ieee.Exact.{HasValue, odd_sign, round_exact}
use Rattle.meaning.specs.Drawn.{farthest, sign, exponent, fraction, Normal, Exactly, ExactFloat}
use Rattle.drawing.proofs.Values.{twice, halve, value_unique, rescale, mul_value}

-- ---- an n from 1 to 2^24, divided by 2^z, is a normal float

size_pos : (n : ℕ) → 0 < n → 0 < size n
size_pos n h = go (size n) (size-lt n)
  where
    go : (s : ℕ) → n < 2 ^ s → 0 < s
    go zero l = omega arith
    go (suc s) l = omega arith

split : (s k : ℕ) → s ≤ k → 2 ^ k ≡ 2 ^ (k - s) * 2 ^ s
split s k h = ap (λ (x : ℕ). 2 ^ x) e ∙ pow-add 2 (k - s) s
  where
    e : k ≡ k - s + s
    e = omega arith

-- no digit of n is lost when its leading digit is moved to the place 2^23
whole : (n : ℕ) → n ≤ 2 ^ 24 → n * 2 ^ 24 / 2 ^ size n * 2 ^ size n ≡ n * 2 ^ 24
whole n h = go (size n) (size-le n 25 (omega arith)) (size_reaches n 24)
  where
    by : (s q : ℕ) → n * 2 ^ 24 ≡ q * 2 ^ s → n * 2 ^ 24 / 2 ^ s * 2 ^ s ≡ n * 2 ^ 24
    by s q e = ap (λ (x : ℕ). x * 2 ^ s) (ap (λ (x : ℕ). x / 2 ^ s) e ∙ mul-div_cancel q (pow_pos s)) ∙ sym e

    go : (s : ℕ) → s ≤ 25 → (24 < s → 2 ^ 24 ≤ n) → n * 2 ^ 24 / 2 ^ s * 2 ^ s ≡ n * 2 ^ 24
    go s l g = elim (eq-or-lt_of_le l) [
      | inl e ↦
          let b : 2 ^ 24 ≤ n = g (omega arith) in
          let m : n ≡ 2 ^ 24 = omega arith in
          subst (λ (k : ℕ). n * 2 ^ 24 / 2 ^ k * 2 ^ k ≡ n * 2 ^ 24) (sym e) (by 25 (2 ^ 23) (omega arith))
      | inr k ↦ by s (n * 2 ^ (24 - s)) (ap (λ (x : ℕ). n * x) (split s 24 (omega arith)) ∙ sym (mul_assoc n (2 ^ (24 - s)) (2 ^ s)))
    ]

-- the exponent of n's leading digit with the bias 127, and the digits below the leading one
unfoldable expo_of : ℕ → ℕ → ℕ
unfolding size
expo_of n z = 126 + size n - z

unfoldable frac_of : ℕ → ℕ
unfolding size
frac_of n = n * 2 ^ 24 / 2 ^ size n - 2 ^ 23

module _ (n : ℕ) (above : 0 < n) (most : n ≤ 2 ^ 24) where
  q_low : 2 ^ 23 ≤ n * 2 ^ 24 / 2 ^ size n
  q_low = le_of_mul-le-mul_right (go (size n) (size_pos n above) (size_reaches n (size n - 1)) (whole n most)) (pow_pos (size n))
    where
      go : (s : ℕ) → 0 < s → (s - 1 < s → 2 ^ (s - 1) ≤ n) → n * 2 ^ 24 / 2 ^ s * 2 ^ s ≡ n * 2 ^ 24 → 2 ^ 23 * 2 ^ s ≤ n * 2 ^ 24 / 2 ^ s * 2 ^ s
      go s p r w =
          let a : 2 ^ (s - 1) ≤ n = r (omega arith) in
          let b : 2 ^ s ≡ 2 ^ (s - (s - 1)) * 2 ^ (s - 1) = split (s - 1) s (omega arith) in
          let c : s - (s - 1) ≡ 1 = omega arith in
          let d : 2 ^ s ≡ 2 * 2 ^ (s - 1) = b ∙ ap (λ (x : ℕ). 2 ^ x * 2 ^ (s - 1)) c in
          omega arith

  q_high : n * 2 ^ 24 / 2 ^ size n < 2 ^ 24
  q_high = lt_of_mul-lt-mul_right (2 ^ size n) (go (2 ^ size n) (size-lt n) (whole n most))
    where
      go : (p : ℕ) → n < p → n * 2 ^ 24 / p * p ≡ n * 2 ^ 24 → n * 2 ^ 24 / p * p < 2 ^ 24 * p
      go p l w = omega arith

  normal : (z : ℕ) → z ≤ 16 → Normal n z (expo_of n z) (frac_of n)
  unfolding expo_of frac_of
  normal z Z =
      let p = size_pos n above in
      let l = size-le n 25 (omega arith) in
      let a = q_low in
      let b = q_high in
      let q = n * 2 ^ 24 / 2 ^ size n in
      let e : 126 + size n - z + z ≡ size n + 126 = omega arith in
      let f : 2 ^ 23 + (q - 2 ^ 23) ≡ q = omega arith in
      record {
        above = omega arith;
        below = omega arith;
        small = omega arith;
        value = ap (λ (x : ℕ). x * 2 ^ (126 + size n - z + z)) f ∙ ap (λ (x : ℕ). q * 2 ^ x) e ∙ ap (λ (x : ℕ). q * x) (pow-add 2 (size n) 126)
            ∙ sym (mul_assoc q (2 ^ size n) (2 ^ 126)) ∙ ap (λ (x : ℕ). x * 2 ^ 126) (whole n most) ∙ mul_assoc n (2 ^ 24) (2 ^ 126);
      }

-- so d / 2^z has a sign, an exponent and a fraction
record Written (d : ℤ) (z : ℕ) : Type 0 where
  s : ℕ
  x : ℕ
  t : ℕ
  is : Exactly d z s x t

written : (d : ℤ) (z : ℕ) → nat_abs d ≤ farthest → z ≤ 16 → Written d z
written (pos zero) z h Z = record { s = 0; x = 0; t = 0; is = (refl, refl, refl) }
written (pos (suc n)) z h Z = record { s = 0; x = expo_of (suc n) z; t = frac_of (suc n); is = (refl, normal (suc n) (omega arith) h z Z) }
written (negsuc n) z h Z = record { s = 1; x = expo_of (suc n) z; t = frac_of (suc n); is = (refl, normal (suc n) (omega arith) h z Z) }

-- ---- from the three numbers to the bits and back

abbrev pattern : ℕ → ℕ → ℕ → ℕ
pattern s x t = s * 2 ^ 31 + x * 2 ^ 23 + t

read : (s x t : ℕ) → s < 2 → x < 2 ^ 8 → t < 2 ^ 23 → (pattern s x t / 2 ^ 31 ≡ s) × (pattern s x t / 2 ^ 23 % 2 ^ 8 ≡ x) × (pattern s x t % 2 ^ 23 ≡ t)
read s x t S X H = (omega arith, omega arith, omega arith)

recompose : (b : ℕ) → b < 2 ^ 32 → pattern (b / 2 ^ 31) (b / 2 ^ 23 % 2 ^ 8) (b % 2 ^ 23) ≡ b
recompose b h = omega arith

bounds : (d : ℤ) (z s x t : ℕ) → Exactly d z s x t → (s < 2) × (x < 2 ^ 8) × (t < 2 ^ 23)
bounds (pos zero) z s x t e = (omega (arith, e.0), omega (arith, e.1), omega (arith, e.2))
bounds (pos (suc n)) z s x t e = (omega (arith, e.0), omega (arith, e.1.below), e.1.small)
bounds (negsuc n) z s x t e = (omega (arith, e.0), omega (arith, e.1.below), e.1.small)

-- ---- the float with these bits has the value d / 2^z

abbrev negative : ℤ → Bool
negative (pos n) = false
negative (negsuc n) = true

parts : (s : Bool) (b x t : ℕ) → leb (2 ^ 31) b ≡ s → b % 2 ^ 31 / 2 ^ 23 ≡ x → b % 2 ^ 23 ≡ t → of_bits binary32 b ≡ of_fields binary32 s x t
unfolding of_bits
parts s b x t p q r =
    ap (λ (a : Bool). of_fields binary32 a (b % 2 ^ 31 / 2 ^ 23) (b % 2 ^ 23)) p
    ∙ ap (λ (a : ℕ). of_fields binary32 s a (b % 2 ^ 23)) q
    ∙ ap (λ (a : ℕ). of_fields binary32 s x a) r

fields_value : (n z : ℕ) (s : Bool) (x t : ℕ) → Normal n z x t → HasValue (of_fields binary32 s x t) s n (2 ^ z)
unfolding of_fields
fields_value n z s zero t h = absurd (lt_irrefl 0 h.above)
fields_value n z s (suc x) t h =
    let no : eqb (suc x) 255 ≡ false = ne_eqb (suc x) 255 (λ e. let b = h.below in omega arith) in
    let m = 2 ^ 23 + t in
    let e : m * 2 ^ (suc x + z) ≡ 2 * (m * 2 ^ x * 2 ^ z) =
    ap (λ (y : ℕ). m * y) (pow-add 2 (suc x) z) ∙ sym (mul_assoc m (2 ^ suc x) (2 ^ z)) ∙ ap (λ (y : ℕ). y * 2 ^ z) (twice m x) ∙ mul_assoc 2 (m * 2 ^ x) (2 ^ z) in
    let same : n * 2 ^ 149 ≡ m * 2 ^ x * 2 ^ z = halve (n * 2 ^ 149) (m * 2 ^ x * 2 ^ z) (sym (mul_left_comm n 2 (2 ^ 149)) ∙ sym h.value ∙ e) in
    rw no (rescale (odd 24 s m x 149) s (m * 2 ^ x) (2 ^ 149) n (2 ^ z) (pow_pos 149) same (odd_sign 24 s m x 149))

plus : (n z x t : ℕ) → Normal n z x t → HasValue (of_bits binary32 (pattern 0 x t)) false n (2 ^ z)
plus n z x t h =
    let a = h.below in
    let b = h.small in
    subst (λ (y : Float). HasValue y false n (2 ^ z))
    (sym (parts false (pattern 0 x t) x t (lt-leb (2 ^ 31) (pattern 0 x t) (omega arith)) (omega arith) (omega arith)))
    (fields_value n z false x t h)

minus : (n z x t : ℕ) → Normal n z x t → HasValue (of_bits binary32 (pattern 1 x t)) true n (2 ^ z)
minus n z x t h =
    let a = h.below in
    let b = h.small in
    subst (λ (y : Float). HasValue y true n (2 ^ z))
    (sym (parts true (pattern 1 x t) x t (le-leb (2 ^ 31) (pattern 1 x t) (omega arith)) (omega arith) (omega arith)))
    (fields_value n z true x t h)

exactly_value : (d : ℤ) (z s x t : ℕ) → Exactly d z s x t → HasValue (of_bits binary32 (pattern s x t)) (negative d) (nat_abs d) (2 ^ z)
unfolding of_bits
exactly_value (pos zero) z s x t h =
    subst (λ (y : Float). HasValue y false 0 (2 ^ z)) (ap (of_bits binary32) e) (refl, omega arith)
  where
    e : 0 ≡ pattern s x t
    e = omega (arith, h.0, h.1, h.2)
exactly_value (pos (suc n)) z s x t h = subst (λ (k : ℕ). HasValue (of_bits binary32 (pattern k x t)) false (suc n) (2 ^ z)) (sym h.0) (plus (suc n) z x t h.1)
exactly_value (negsuc n) z s x t h = subst (λ (k : ℕ). HasValue (of_bits binary32 (pattern k x t)) true (suc n) (2 ^ z)) (sym h.0) (minus (suc n) z x t h.1)

-- ---- exact by its bits is exact by its value, and one float is

exact_value : (d : ℤ) (z : ℕ) (r : Float) → ExactFloat d z r → HasValue r (negative d) (nat_abs d) (2 ^ z)
exact_value d z r e =
    let f = e.single in
    subst (λ (y : Float). HasValue y (negative d) (nat_abs d) (2 ^ z))
    (ap (of_bits binary32) (recompose (to_bits binary32 r) (to_bits-lt binary32 r f)) ∙ of_bits-to_bits binary32 r f)
    (exactly_value d z (sign r) (exponent r) (fraction r) e.exact)

pub exact_unique : (d : ℤ) (z : ℕ) (r s : Float) → ExactFloat d z r → ExactFloat d z s → r ≡ s
exact_unique d z r s e g =
    value_unique binary32 r s (negative d) (nat_abs d) (2 ^ z) (pow_pos z) e.single g.single (exact_value d z r e) (exact_value d z s g)

finite_no_nan : (x : Float) (s : Bool) (a c : ℕ) → HasValue x s a c → T (not (is_nan x))
unfolding is_nan
finite_no_nan (fin t m e) s a c v = tt
finite_no_nan nan s a c v = elim v [ ]
finite_no_nan (inf _) s a c v = elim v [ ]

value_exact : (d : ℤ) (z : ℕ) (r : Float) → nat_abs d ≤ farthest → z ≤ 16 → T (fits binary32 r) → HasValue r (negative d) (nat_abs d) (2 ^ z) → ExactFloat d z r
value_exact d z r h Z f v =
    let w = written d z h Z in
    let p = pattern w.s w.x w.t in
    let b = bounds d z w.s w.x w.t w.is in
    let k = read w.s w.x w.t b.0 b.1 b.2 in
    let l : p < 2 ^ 32 = omega (arith, b.0, b.1, b.2) in
    let u = exactly_value d z w.s w.x w.t w.is in
    let same : r ≡ of_bits binary32 p = value_unique binary32 r (of_bits binary32 p) (negative d) (nat_abs d) (2 ^ z) (pow_pos z) f (of_bits-fits binary32 p) v u in
    let bits : to_bits binary32 r ≡ p =
    ap (to_bits binary32) same ∙ to_bits-of_bits binary32 p l (finite_no_nan (of_bits binary32 p) (negative d) (nat_abs d) (2 ^ z) u) in
    record { single = f; exact = rw (bits, k.0, k.1, k.2) w.is }

-- ---- a cast, and a multiplication by 2^-k

round_dyadic : (s : Bool) (n z : ℕ) → n ≤ 2 ^ 24 → z ≤ 16 → HasValue (round binary32 s n (2 ^ z)) s n (2 ^ z)
round_dyadic s n z h Z = elim (eq-or-lt_of_le h) [
  | inl e ↦ round_exact binary32 s n (2 ^ z) 1 (173 - z) (pow_pos z) (lit< tt)
      (le_trans (le_of_eq (ap suc (one-mul (2 ^ (173 - z))))) (lt_of_le_of_lt (pow_mono (low173)) (lit< tt)))
      (ap (λ (x : ℕ). x * 2 ^ 149) e ∙ split z 173 (omega arith) ∙ ap (λ (x : ℕ). x * 2 ^ z) (sym (one-mul (2 ^ (173 - z)))))
  | inr l ↦ round_exact binary32 s n (2 ^ z) n (149 - z) (pow_pos z) l
      (lt_of_lt_of_le (shl_lt 24 (149 - z) l) (pow_mono (low149)))
      (ap (λ (x : ℕ). n * x) (split z 149 (omega arith)) ∙ sym (mul_assoc n (2 ^ (149 - z)) (2 ^ z)))
]
  where
    low173 : 173 - z ≤ 173
    low173 = omega arith

    low149 : 24 + (149 - z) ≤ 277
    low149 = omega arith

pub cast_in : (d : ℤ) → nat_abs d ≤ farthest → T (in_float binary32 d)
unfolding in_float
cast_in (pos n) h = le→leb n (2 ^ 24) h
cast_in (negsuc n) h = lt→ltb n (2 ^ 24) h

pub cast_exact : (d : ℤ) → nat_abs d ≤ farthest → ExactFloat d 0 (of_int binary32 d)
unfolding of_int
cast_exact d h = value_exact d 0 (of_int binary32 d) h (lit≤ tt) (of_int-fits binary32 d) (go d h)
  where
    go : (d : ℤ) → nat_abs d ≤ farthest → HasValue (of_int binary32 d) (negative d) (nat_abs d) 1
    go (pos n) h = round_whole binary32 false n h
    go (negsuc n) h = round_whole binary32 true (suc n) h

abbrev pub power : ℕ → Float
power k = of_bits binary32 (pattern 0 (127 - k) 0)

power_value : (k : ℕ) → k ≤ 16 → HasValue (power k) false 1 (2 ^ k)
power_value k K = plus 1 k (127 - k) 0 (record { above = omega arith; below = omega arith; small = lit< tt; value = ap (λ (x : ℕ). 2 ^ 23 * 2 ^ x) e })
  where
    e : 127 - k + k ≡ 127
    e = omega arith

like : (s : Bool) → unlike s false ≡ s
like true = refl
like false = refl

pub times : (d : ℤ) (i k : ℕ) (x : Float) → nat_abs d ≤ farthest → i + k ≤ 16 → ExactFloat d i x → ExactFloat d (i + k) (mul binary32 x (power k))
times d i k x h Z e =
    let n = nat_abs d in
    let s = negative d in
    let p : mul binary32 x (power k) ≡ round binary32 s n (2 ^ (i + k)) =
    mul_value binary32 x (power k) s false n (2 ^ i) 1 (2 ^ k) (pow_pos i) (pow_pos k) (exact_value d i x e) (power_value k (omega arith))
    ∙ ap (λ (t : Bool). round binary32 t (n * 1) (2 ^ i * 2 ^ k)) (like s)
    ∙ ap (λ (m : ℕ). round binary32 s m (2 ^ i * 2 ^ k)) (mul-one n)
    ∙ ap (λ (m : ℕ). round binary32 s n m) (sym (pow-add 2 i k)) in
    value_exact d (i + k) (mul binary32 x (power k)) h Z (mul-fits binary32 x (power k))
    (subst (λ (r : Float). HasValue r s n (2 ^ (i + k))) (sym p) (round_dyadic s n (i + k) h Z))

-- ---- one multiplication, or many halvings

unfoldable pub halvings : ℕ → Float → Float
halvings zero x = x
halvings (suc k) x = mul binary32 (halvings k x) (power 1)

halvings_exact : (d : ℤ) (i k : ℕ) (x : Float) → nat_abs d ≤ farthest → i + k ≤ 16 → ExactFloat d i x → ExactFloat d (i + k) (halvings k x)
unfolding halvings
halvings_exact d i zero x h Z e = rw (add-zero i) e
halvings_exact d i (suc k) x h Z e =
    subst (λ (z : ℕ). ExactFloat d z (mul binary32 (halvings k x) (power 1))) j
    (times d (i + k) 1 (halvings k x) h (omega arith) (halvings_exact d i k x h (omega arith) e))
  where
    j : i + k + 1 ≡ i + suc k
    j = omega arith

pub one_multiplication : (d : ℤ) (i k : ℕ) (x : Float) → nat_abs d ≤ farthest → i + k ≤ 16 → ExactFloat d i x → mul binary32 x (power k) ≡ halvings k x
one_multiplication d i k x h Z e =
    exact_unique d (i + k) (mul binary32 x (power k)) (halvings k x) (times d i k x h Z e) (halvings_exact d i k x h Z e)
