-- Signed numbers: equality, the way of a number through its bits and back, and the natural number that stands for it. Assumes nothing.
--
--   eq_z_refl, eq_z_yes, eq_z_no, eq_z_true, eq_z_false   what `eq_z` says; eq_z_natural: of a natural number
--   not_le_z, lt_le_trans, le_trans_le_z, lt_not_le, le_not_lt, lt_le, pred_lt, lt_pred   tests of order
--   read32               a number that was written as bits and read again; widens, widened: and handed on as one of 64 bits
--   eq_bits              the machine's test of equality, which goes by the bits
--   told_yes, told_no    what a call of a test says, where `if !test(x)` was not taken, or was
--   within, outside      the two halves of a range test against `in_range`
--   key_of, unkey_of       z + 2^31 and back: orders and equations of 32-bit numbers are those of their keys (le_key, eq_key, key_inj)
--   sub_pos, sub_neg, sub_same   a difference of naturals, by its sign; equal differences; minus_sub: the two ways to write it
use Rattle.std.specs.Prelude.{◌≡◌, refl, Bool, true, false, not, ℕ, zero, suc, ◌+◌, ◌-◌, ◌<◌, ℤ, pos, negsuc, nat_abs, ◌+ℤ◌, ◌-ℤ◌, leb, ltb, eqb}
use Rattle.std.proofs.Common.{sym, ap, ◌∙◌, subst, true≢false, arith, add-zero, le-ltb, lt-ltb, le-leb, leb-true, ltb-true, ltb-false, eq-eqb, ne_eqb, eqb-true, SFits, of_z, to_z, to_z-of_z}
use Rattle.std.proofs.lemmas.Bool.{false≢true, lt-leb, not-true, not-false}
use Rattle.std.proofs.Math.Decide.{dec_lt}
use Rattle.std.proofs.Math.IntN.{sub_ℕ, pred_ℤ}
use Rattle.std.specs.Int.Signed.{mag, le_z, lt_z}
use Rattle.std.proofs.Math.Dec.{leb-suc-suc}
use Rattle.std.specs.Int.{Width, w32, w64}
use Rattle.std.proofs.Math.Facts.{sfits_widen}
use Rattle.meaning.specs.Numbers.{eq_z}
use Rattle.basic_laws.specs.Tests.{not_leb, leb_same, eqb_same}

-- ---- equality

pub eq_z_refl : (a : ℤ) → eq_z a a ≡ true
unfolding eq_z
eq_z_refl (pos n) = eq-eqb n n refl
eq_z_refl (negsuc n) = eq-eqb n n refl

pub eq_z_yes : (a b : ℤ) → a ≡ b → eq_z a b ≡ true
eq_z_yes a b e = subst (λ (c : ℤ). eq_z a c ≡ true) e (eq_z_refl a)

pub eq_z_no : (a b : ℤ) → (a ≡ b → ⊥) → eq_z a b ≡ false
unfolding eq_z
eq_z_no (pos a) (pos b) h = ne_eqb a b (λ e. h (ap pos e))
eq_z_no (pos a) (negsuc b) h = refl
eq_z_no (negsuc a) (pos b) h = refl
eq_z_no (negsuc a) (negsuc b) h = ne_eqb a b (λ e. h (ap negsuc e))

pub eq_z_true : (a b : ℤ) → eq_z a b ≡ true → a ≡ b
unfolding eq_z
eq_z_true (pos a) (pos b) e = ap pos (eqb-true a b e)
eq_z_true (pos a) (negsuc b) e = absurd (false≢true e)
eq_z_true (negsuc a) (pos b) e = absurd (false≢true e)
eq_z_true (negsuc a) (negsuc b) e = ap negsuc (eqb-true a b e)

pub eq_z_false : (a b : ℤ) → eq_z a b ≡ false → a ≡ b → ⊥
eq_z_false a b e h = true≢false (sym (eq_z_yes a b h) ∙ e)

pub eq_z_natural : (z : ℤ) (n : ℕ) → le_z (pos 0) z ≡ true → eq_z z (pos n) ≡ eqb (nat_abs z) n
unfolding eq_z
eq_z_natural (pos m) n h = refl
eq_z_natural (negsuc m) n h = absurd (false≢true h)

-- ---- order

pub not_le_z : (k h : ℤ) → lt_z k h ≡ not (le_z h k)
not_le_z (pos k) (pos h) = not_leb k h
not_le_z (pos k) (negsuc h) = refl
not_le_z (negsuc k) (pos h) = refl
not_le_z (negsuc k) (negsuc h) = not_leb h k

pub lt_le_trans : (a b c : ℤ) → lt_z a b ≡ true → le_z b c ≡ true → lt_z a c ≡ true
lt_le_trans (pos a) (pos b) (pos c) p q = lt-ltb a c (omega (arith, ltb-true a b p, leb-true b c q))
lt_le_trans (pos a) (pos b) (negsuc c) p q = q
lt_le_trans (pos a) (negsuc b) c p q = absurd (false≢true p)
lt_le_trans (negsuc a) b (pos c) p q = refl
lt_le_trans (negsuc a) (pos b) (negsuc c) p q = absurd (false≢true q)
lt_le_trans (negsuc a) (negsuc b) (negsuc c) p q = lt-ltb c a (omega (arith, ltb-true b a p, leb-true c b q))

pub le_trans_le_z : (a b c : ℤ) → le_z a b ≡ true → le_z b c ≡ true → le_z a c ≡ true
le_trans_le_z (pos a) (pos b) (pos c) p q = le-leb a c (omega (arith, leb-true a b p, leb-true b c q))
le_trans_le_z (pos a) (pos b) (negsuc c) p q = q
le_trans_le_z (pos a) (negsuc b) c p q = absurd (false≢true p)
le_trans_le_z (negsuc a) b (pos c) p q = refl
le_trans_le_z (negsuc a) (pos b) (negsuc c) p q = absurd (false≢true q)
le_trans_le_z (negsuc a) (negsuc b) (negsuc c) p q = le-leb c a (omega (arith, leb-true b a p, leb-true c b q))

-- what is below is not at or above, and the other way round
pub lt_not_le : (a b : ℤ) → lt_z a b ≡ true → le_z b a ≡ false
lt_not_le a b p = go (le_z b a) refl
  where
    go : (t : Bool) → le_z b a ≡ t → le_z b a ≡ false
    go true e = absurd (false≢true (sym (not_le_z a b ∙ ap not e) ∙ p))
    go false e = e

pub le_not_lt : (a b : ℤ) → le_z a b ≡ true → lt_z b a ≡ false
le_not_lt a b p = not_le_z b a ∙ ap not p

pub lt_le : (a b : ℤ) → lt_z a b ≡ true → le_z a b ≡ true
lt_le (pos a) (pos b) p = le-leb a b (omega (arith, ltb-true a b p))
lt_le (pos a) (negsuc b) p = p
lt_le (negsuc a) (pos b) p = refl
lt_le (negsuc a) (negsuc b) p = le-leb b a (omega (arith, ltb-true b a p))

-- the number before
pub pred_lt : (a b : ℤ) → lt_z a b ≡ true → lt_z (pred_ℤ a) b ≡ true
pred_lt (pos zero) (pos b) p = refl
pred_lt (pos (suc a)) (pos b) p = lt-ltb a b (omega (arith, ltb-true (suc a) b p))
pred_lt (pos zero) (negsuc b) p = absurd (false≢true p)
pred_lt (pos (suc a)) (negsuc b) p = p
pred_lt (negsuc a) (pos b) p = refl
pred_lt (negsuc a) (negsuc b) p = lt-ltb b (suc a) (omega (arith, ltb-true b a p))

pub lt_pred : (n : ℕ) (b : ℤ) → lt_z (pos n) b ≡ true → le_z (pos n) (pred_ℤ b) ≡ true
lt_pred n (pos zero) p = absurd (omega (arith, ltb-true n 0 p))
lt_pred n (pos (suc b)) p = le-leb n b (omega (arith, ltb-true n (suc b) p))
lt_pred n (negsuc b) p = absurd (false≢true p)

-- ---- bits

pub read32 : (z : ℤ) → mag z < 2147483648 → to_z w32 (of_z w32 z) ≡ z
read32 z h = to_z-of_z {w = w32} {z = z} (record { sfits = h })

-- a number of 32 bits handed on as one of 64
pub widens : (z : ℤ) → SFits w32 z → SFits w64 (to_z w32 (of_z w32 z))
widens z h = rw (to_z-of_z h) (sfits_widen {w = w32} {w' = w64} tt h)

pub widened : (z : ℤ) → SFits w32 z → to_z w64 (of_z w64 (to_z w32 (of_z w32 z))) ≡ z
widened z h = to_z-of_z (widens z h) ∙ to_z-of_z h

pub eq_bits : (a b : ℤ) → mag a < 2147483648 → mag b < 2147483648 → eqb (of_z w32 a) (of_z w32 b) ≡ eq_z a b
unfolding eq_z
eq_bits (pos a) (pos b) ha hb = refl
eq_bits (pos a) (negsuc b) ha hb = ne_eqb a (4294967296 - suc b) (λ e. omega arith)
eq_bits (negsuc a) (pos b) ha hb = ne_eqb (4294967296 - suc a) b (λ e. omega arith)
eq_bits (negsuc a) (negsuc b) ha hb = eqb_same (4294967296 - suc a) (4294967296 - suc b) a b (λ e. omega arith) (λ e. omega arith)

-- a call answered r, a test g of the signed number x, which it read back from its bits
pub told_no : (g : ℤ → Bool) (w : Width) (x : ℤ) {r : Bool} → SFits w x → r ≡ g (to_z w (of_z w x)) → not r ≡ true → g x ≡ false
told_no g w x {r} f e t = ap g (sym (to_z-of_z f)) ∙ sym e ∙ not-true r t

pub told_yes : (g : ℤ → Bool) (w : Width) (x : ℤ) {r : Bool} → SFits w x → r ≡ g (to_z w (of_z w x)) → not r ≡ false → g x ≡ true
told_yes g w x {r} f e t = ap g (sym (to_z-of_z f)) ∙ sym e ∙ not-false r t

-- ---- the range from -(b + 1) to b + 1

pub within : (b : ℕ) (x c : ℤ) → x ≡ c → le_z (negsuc b) x ≡ true → le_z x (pos (suc b)) ≡ leb (nat_abs c) (suc b)
within b x c e h = subst (λ (y : ℤ). le_z x (pos (suc b)) ≡ leb (nat_abs y) (suc b)) e (go x h)
  where
    go : (x : ℤ) → le_z (negsuc b) x ≡ true → le_z x (pos (suc b)) ≡ leb (nat_abs x) (suc b)
    go (pos n) h = refl
    go (negsuc n) h = sym (leb-suc-suc n b ∙ h)

pub outside : (b : ℕ) (x c : ℤ) → x ≡ c → le_z (negsuc b) x ≡ false → le_z (negsuc b) x ≡ leb (nat_abs c) (suc b)
outside b x c e h = subst (λ (y : ℤ). le_z (negsuc b) x ≡ leb (nat_abs y) (suc b)) e (go x h)
  where
    go : (x : ℤ) → le_z (negsuc b) x ≡ false → le_z (negsuc b) x ≡ leb (nat_abs x) (suc b)
    go (pos n) h = absurd (true≢false h)
    go (negsuc n) h = sym (leb-suc-suc n b)

-- ---- differences of naturals

pub sub_pos : (a b n : ℕ) → a ≡ b + n → sub_ℕ a b ≡ pos n
sub_pos a b n e = rw (le-ltb a b (omega arith)) (ap pos (omega arith))

pub sub_neg : (a b n : ℕ) → b ≡ a + suc n → sub_ℕ a b ≡ negsuc n
sub_neg a b n e = rw (lt-ltb a b (omega arith)) (ap negsuc (omega arith))

pub sub_same : (a b c d : ℕ) → a + d ≡ c + b → sub_ℕ a b ≡ sub_ℕ c d
sub_same a b c d e = go (dec_lt a b)
  where
    go : Dec (a < b) → sub_ℕ a b ≡ sub_ℕ c d
    go (yes h) = sub_neg a b (b - suc a) (omega arith) ∙ sym (sub_neg c d (b - suc a) (omega arith))
    go (no h) = sub_pos a b (a - b) (omega arith) ∙ sym (sub_pos c d (a - b) (omega arith))

-- a difference of naturals is that of the library
pub minus_sub : (w e : ℕ) → pos w -ℤ pos e ≡ sub_ℕ w e
minus_sub w zero = ap pos (add-zero w) ∙ sym (sub_pos w zero w (omega arith))
minus_sub w (suc e) = refl

-- ---- keys

-- z + 2^31
abbrev pub key_of : ℤ → ℕ
key_of (pos n) = n + 2147483648
key_of (negsuc n) = 2147483648 - suc n

-- n - 2^31
abbrev pub unkey_of : ℕ → ℤ
unkey_of n = sub_ℕ n 2147483648

pub key_up : (z : ℤ) → mag z < 2147483648 → z +ℤ pos 2147483648 ≡ pos (key_of z)
key_up (pos n) h = refl
key_up (negsuc n) h = sub_pos 2147483648 (suc n) (2147483648 - suc n) (omega arith)

pub key_fits : (z : ℤ) → mag z < 2147483648 → key_of z < 4294967296
key_fits (pos n) h = omega arith
key_fits (negsuc n) h = omega arith

pub le_key : (a b : ℤ) → mag a < 2147483648 → mag b < 2147483648 → le_z a b ≡ leb (key_of a) (key_of b)
le_key (pos a) (pos b) ha hb = leb_same a b (a + 2147483648) (b + 2147483648) (λ h. omega arith) (λ h. omega arith)
le_key (pos a) (negsuc b) ha hb = sym (lt-leb (a + 2147483648) (2147483648 - suc b) (omega arith))
le_key (negsuc a) (pos b) ha hb = sym (le-leb (2147483648 - suc a) (b + 2147483648) (omega arith))
le_key (negsuc a) (negsuc b) ha hb = leb_same b a (2147483648 - suc a) (2147483648 - suc b) (λ h. omega arith) (λ h. omega arith)

pub key_inj : (a b : ℤ) → mag a < 2147483648 → mag b < 2147483648 → key_of a ≡ key_of b → a ≡ b
key_inj (pos a) (pos b) ha hb e = ap pos (omega arith)
key_inj (pos a) (negsuc b) ha hb e = absurd (omega arith)
key_inj (negsuc a) (pos b) ha hb e = absurd (omega arith)
key_inj (negsuc a) (negsuc b) ha hb e = ap negsuc (omega arith)

pub eq_key : (a b : ℤ) → mag a < 2147483648 → mag b < 2147483648 → eq_z a b ≡ eqb (key_of a) (key_of b)
unfolding eq_z
eq_key (pos a) (pos b) ha hb = eqb_same a b (a + 2147483648) (b + 2147483648) (λ e. omega arith) (λ e. omega arith)
eq_key (pos a) (negsuc b) ha hb = sym (ne_eqb (a + 2147483648) (2147483648 - suc b) (λ e. omega arith))
eq_key (negsuc a) (pos b) ha hb = sym (ne_eqb (2147483648 - suc a) (b + 2147483648) (λ e. omega arith))
eq_key (negsuc a) (negsuc b) ha hb = eqb_same a b (2147483648 - suc a) (2147483648 - suc b) (λ e. omega arith) (λ e. omega arith)

pub unkey_fits : (n : ℕ) → n < 4294967296 → mag (unkey_of n) < 2147483648
unkey_fits n h = go (ltb n 2147483648) refl
  where
    go : (t : Bool) → ltb n 2147483648 ≡ t → mag (unkey_of n) < 2147483648
    go true e = rw e (omega arith)
    go false e = rw e (omega arith)

pub key_unkey : (n : ℕ) → key_of (unkey_of n) ≡ n
key_unkey n = go (ltb n 2147483648) refl
  where
    go : (t : Bool) → ltb n 2147483648 ≡ t → key_of (unkey_of n) ≡ n
    go true e = rw e (omega (arith, ltb-true n 2147483648 e))
    go false e = rw e (omega (arith, ltb-false n 2147483648 e))

pub unkey_key : (z : ℤ) → mag z < 2147483648 → unkey_of (key_of z) ≡ z
unkey_key z h = key_inj (unkey_of (key_of z)) z (unkey_fits (key_of z) (key_fits z h)) h (key_unkey (key_of z))
