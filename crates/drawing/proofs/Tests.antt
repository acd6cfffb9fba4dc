-- Tests and differences of signed numbers, as the code makes them, against the definitions. Assumes nothing.
--
--   told                  what a call of a test said, of the number itself
--   up_to_in, up_to_out   the two halves of the test `0 <= z && z <= n`
--   view_zoom             the zoom of a view in range is not negative, and at most 16
--   all_near              the size of each of three offsets that are drawn
--   minus_fits            a difference of two 32-bit numbers fits 64 bits
use mathlib.Core.Path.{◌≡◌, refl, sym, ap, ◌∙◌, subst}
use mathlib.Core.Bool.{Bool, true, false, ◌&&◌, true≢false, false≢true, cond}
use Prim.Native.Nat.{ℕ, zero, suc, ◌+◌, ◌-◌, ◌≤◌, zero-le}
use native.Mathlib.Omega.{arith}
use lib.Dec.{T, ltb}
use lib.IntN.{ℤ, pos, negsuc, nat_abs, sub_ℕ, ◌-ℤ◌}
use lib.Signed.{mag, le_z, non_neg}
use borrow.Author.Tests.{le-leb, leb-true}
use mir.Syntax.{Width, w32, w64}
use mir.Val.{SFits, to_z, of_z}
use mir.ValLaws.{to_z-of_z}
use Rattle.meaning.specs.Numbers.{zero_to, limit, in_range}
use Rattle.meaning.specs.Drawn.{view_in_range, farthest, all_drawn}
use Rattle.basic_laws.specs.Tests.{and_left, and_right}

pub told : (g : ℤ → Bool) (w : Width) (x : ℤ) {r b : Bool} → SFits w x → r ≡ g (to_z w (of_z w x)) → r ≡ b → g x ≡ b
told g w x f e t = ap g (sym (to_z-of_z w x f)) ∙ sym e ∙ t

pub up_to_in : (n : ℕ) (x z : ℤ) → x ≡ z → le_z (pos 0) x ≡ true → le_z x (pos n) ≡ zero_to n z
up_to_in n x z e h = subst (λ (y : ℤ). le_z x (pos n) ≡ zero_to n y) e (go x h)
  where
    go : (x : ℤ) → le_z (pos 0) x ≡ true → le_z x (pos n) ≡ zero_to n x
    go (pos k) h = refl
    go (negsuc k) h = absurd (false≢true h)

pub up_to_out : (n : ℕ) (x z : ℤ) → x ≡ z → le_z (pos 0) x ≡ false → le_z (pos 0) x ≡ zero_to n z
up_to_out n x z e h = subst (λ (y : ℤ). le_z (pos 0) x ≡ zero_to n y) e (go x h)
  where
    go : (x : ℤ) → le_z (pos 0) x ≡ false → le_z (pos 0) x ≡ zero_to n x
    go (pos k) h = absurd (true≢false (sym (le-leb 0 k zero-le) ∙ h))
    go (negsuc k) h = refl

pub view_zoom : (ox oy zoom : ℤ) → view_in_range ox oy zoom ≡ true → T (non_neg zoom) × (nat_abs zoom ≤ 16)
unfolding view_in_range
view_zoom ox oy zoom h = go zoom (and_right (in_range limit ox && in_range limit oy) (zero_to 16 zoom) h)
  where
    go : (z : ℤ) → zero_to 16 z ≡ true → T (non_neg z) × (nat_abs z ≤ 16)
    go (pos k) h = (tt, leb-true k 16 h)
    go (negsuc k) h = absurd (false≢true h)

pub all_near : (p f t : ℤ) → all_drawn p f t ≡ true → (nat_abs p ≤ farthest) × (nat_abs f ≤ farthest) × (nat_abs t ≤ farthest)
unfolding all_drawn
all_near p f t h =
    let a = in_range farthest p in
    let b = in_range farthest f in
    let l = and_left (a && b) (in_range farthest t) h in
    (leb-true (nat_abs p) farthest (and_left a b l), leb-true (nat_abs f) farthest (and_right a b l), leb-true (nat_abs t) farthest (and_right (a && b) (in_range farthest t) h))

mag_subℕ : (a b : ℕ) → mag (sub_ℕ a b) ≤ a + b
mag_subℕ a b = go (ltb a b)
  where
    go : (t : Bool) → mag (cond t (negsuc (b - suc a)) (pos (a - b))) ≤ a + b
    go true = omega arith
    go false = omega arith

mag_minus : (a b : ℤ) → mag (a -ℤ b) ≤ mag a + mag b + 2
mag_minus (pos a) (pos zero) = omega arith
mag_minus (pos a) (pos (suc b)) = let h = mag_subℕ a (suc b) in omega arith
mag_minus (pos a) (negsuc b) = omega arith
mag_minus (negsuc a) (pos zero) = let h = mag_subℕ 0 (suc a) in omega arith
mag_minus (negsuc a) (pos (suc b)) = omega arith
mag_minus (negsuc a) (negsuc b) = let h = mag_subℕ (suc b) (suc a) in omega arith

pub minus_fits : (a b : ℤ) → SFits w32 a → SFits w32 b → SFits w64 (a -ℤ b)
minus_fits a b f g = let h = mag_minus a b in record { sfits = omega (arith, f.sfits, g.sfits) }
