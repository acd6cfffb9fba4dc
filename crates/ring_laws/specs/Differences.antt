-- Signed numbers as they are stored: no stored number is minus zero, each other number is one, and differences are told apart. Assumes nothing.
--
--   pos_inj                   natural numbers as signed ones
--   signed_one, signed_inj    1 is never stored; two numbers are stored apart
--   unsigned v                the signed number that is stored as v, where v is not 1
--   difference_inj            differences from one number tell numbers apart
--   difference_back           p and a difference from it
--   within_range                  `in_range` against the size
--   signed_size, add_size, difference_size   how large what is stored can be
use Rattle.std.specs.Prelude.{◌≡◌, refl, Bool, true, false, ℕ, zero, suc, ◌+◌, ◌-◌, ◌*◌, ◌/◌, ◌%◌, ◌≤◌, eqb, ltb, ℤ, pos, negsuc, nat_abs, neg_ℤ, ◌+ℤ◌, ◌-ℤ◌}
use Rattle.std.proofs.Common.{sym, ap, ◌∙◌, arith, eq-eqb, ne_eqb, ltb-true, ltb-false, leb-true}
use Rattle.std.proofs.Math.Decide.{ℕ_discrete}
use Rattle.std.proofs.Math.IntN.{sub_ℕ, +ℤ-neg_ℤ_cancel, -ℤ-+ℤ_cancel}
use Rattle.meaning.specs.Numbers.{pick, in_range}
use Rattle.meaning.specs.MaskFile.{signed}

pub pos_inj : (m n : ℕ) → pos m ≡ pos n → m ≡ n
pos_inj m n e = cc

pub signed_one : (z : ℤ) → signed z ≡ 1 → ⊥
signed_one (pos n) e = omega arith
signed_one (negsuc n) e = omega arith

pub signed_inj : (a b : ℤ) → signed a ≡ signed b → a ≡ b
signed_inj (pos a) (pos b) e = ap pos (omega arith)
signed_inj (pos a) (negsuc b) e = absurd (omega arith)
signed_inj (negsuc a) (pos b) e = absurd (omega arith)
signed_inj (negsuc a) (negsuc b) e = ap negsuc (omega arith)

abbrev pub unsigned : ℕ → ℤ
unsigned v = pick (eqb (v % 2) 0) (pos (v / 2)) (negsuc (v / 2 - 1))

pub signed_unsigned : (v : ℕ) → (v ≡ 1 → ⊥) → signed (unsigned v) ≡ v
signed_unsigned v h = split (ℕ_discrete (v % 2) 0)
  where
    split : Dec (v % 2 ≡ 0) → signed (unsigned v) ≡ v
    split (yes e) = rw (eq-eqb (v % 2) 0 e) (omega arith)
    split (no e) = rw (ne_eqb (v % 2) 0 e) (omega arith)

pub difference_inj : (a b p : ℤ) → signed (a -ℤ p) ≡ signed (b -ℤ p) → a ≡ b
difference_inj a b p e =
    sym (-ℤ-+ℤ_cancel a p) ∙ ap (λ (d : ℤ). d +ℤ p) (signed_inj (a -ℤ p) (b -ℤ p) e) ∙ -ℤ-+ℤ_cancel b p

pub difference_back : (d p : ℤ) → (d +ℤ p) -ℤ p ≡ d
difference_back d p = +ℤ-neg_ℤ_cancel d p

-- ---- sizes

pub signed_size : (z : ℤ) → signed z ≤ 2 * nat_abs z + 1
signed_size (pos n) = omega arith
signed_size (negsuc n) = omega arith

sub_size : (m n : ℕ) → nat_abs (sub_ℕ m n) ≤ m + n
sub_size m n = go (ltb m n) refl
  where
    go : (t : Bool) → ltb m n ≡ t → nat_abs (sub_ℕ m n) ≤ m + n
    go true e = rw e (omega (arith, ltb-true m n e))
    go false e = rw e (omega (arith, ltb-false m n e))

pub add_size : (a b : ℤ) → nat_abs (a +ℤ b) ≤ nat_abs a + nat_abs b
add_size (pos a) (pos b) = omega arith
add_size (pos a) (negsuc b) = sub_size a (suc b)
add_size (negsuc a) (pos b) = omega (arith, sub_size b (suc a))
add_size (negsuc a) (negsuc b) = omega arith

neg_size : (a : ℤ) → nat_abs (neg_ℤ a) ≡ nat_abs a
neg_size (pos zero) = refl
neg_size (pos (suc n)) = refl
neg_size (negsuc n) = refl

pub within_range : (L : ℕ) (z : ℤ) → in_range L z ≡ true → nat_abs z ≤ L
within_range L z e = leb-true (nat_abs z) L e

pub difference_size : (L : ℕ) (a b : ℤ) → nat_abs a ≤ L → nat_abs b ≤ L → signed (a -ℤ b) ≤ 4 * L + 1
difference_size L a b ha hb = omega (arith, signed_size (a -ℤ b), add_size a (neg_ℤ b), neg_size b)
