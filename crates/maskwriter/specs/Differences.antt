-- A stored difference, made of two coordinates that stand 2^31 above themselves. Assumes nothing.
--
--   difference_key   it is that of the coordinates
--   stored_means     the code stores a due number as the paper says
--   means_stored     a number is stored one way
use mathlib.Core.Path.{◌≡◌, refl, sym, ap, ◌∙◌}
use mathlib.Core.Bool.{Bool, true, false}
use Prim.Native.Nat.{ℕ, zero, suc, ◌+◌, ◌-◌, ◌≤◌}
use native.Mathlib.Omega.{arith}
use lib.Dec.{ltb}
use lib.IntN.{ℤ, pos, negsuc, nat_abs, sub_ℕ, ◌-ℤ◌}
use borrow.Author.Tests.{ltb-true}
use Rattle.basic_laws.specs.Signed.{key_of, sub_pos, sub_neg, sub_same}
use Rattle.meaning.specs.Numbers.{limit}
use Rattle.meaning.specs.Rings.{xs, ys}
use Rattle.meaning.specs.MaskFile.{signed}
use Rattle.meaning.specs.Faults.{Begun, at_layer, at_count, at_x, at_y, previous, Stores}
use Rattle.ring_laws.specs.Differences.{within_range}
use Rattle.ring_laws.specs.Beginnings.{Fine, fine_x, fine_y, Good}
use Rattle.ring_laws.specs.Forms.{previous_size, range_xs, range_ys}
use Rattle.reading_laws.specs.StateOf.{state_of, keyed}
use Rattle.reading_laws.specs.Standing.{Natural, zero_in}
use Rattle.maskwriter.specs.Stored.{difference, stored_of}

sub_keys : (z p : ℤ) → nat_abs z ≤ limit → nat_abs p ≤ limit → z -ℤ p ≡ sub_ℕ (key_of z) (key_of p)
sub_keys (pos a) (pos zero) hz hp = sym (sub_pos (a + 2147483648) (0 + 2147483648) (a + 0) (omega arith))
sub_keys (pos a) (pos (suc b)) hz hp = sub_same a (suc b) (a + 2147483648) (suc b + 2147483648) (omega arith)
sub_keys (pos a) (negsuc b) hz hp = sym (sub_pos (a + 2147483648) (2147483648 - suc b) (a + suc b) (omega arith))
sub_keys (negsuc a) (pos zero) hz hp = sub_same 0 (suc a) (2147483648 - suc a) (0 + 2147483648) (omega arith)
sub_keys (negsuc a) (pos (suc b)) hz hp = sym (sub_neg (2147483648 - suc a) (suc b + 2147483648) (suc (a + b)) (omega arith))
sub_keys (negsuc a) (negsuc b) hz hp = sub_same (suc b) (suc a) (2147483648 - suc a) (2147483648 - suc b) (omega arith)

signed_sub : (v p : ℕ) → signed (sub_ℕ v p) ≡ difference p v
signed_sub v p = go (ltb v p) refl
  where
    go : (t : Bool) → ltb v p ≡ t → signed (sub_ℕ v p) ≡ difference p v
    go true e = rw e (omega (arith, ltb-true v p e))
    go false e = rw e

pub difference_key : (z p : ℤ) → nat_abs z ≤ limit → nat_abs p ≤ limit → difference (key_of p) (key_of z) ≡ signed (z -ℤ p)
difference_key z p hz hp = sym (ap signed (sub_keys z p hz hp) ∙ signed_sub (key_of z) (key_of p))

pub stored_means : (b : Begun) (z : ℤ) → Good limit b → Natural b z → Fine limit b z → Stores b (stored_of (state_of b) (keyed b z)) z
unfolding stored_of
stored_means (at_layer rs) z g (n, e) f = rw e
stored_means (at_count rs l) z g (n, e) f = rw e
stored_means (at_x rs l k ps) z g u f =
    difference_key z (previous (xs ps)) (within_range limit z (fine_x limit rs l k ps z f).0) (within_range limit (previous (xs ps)) (previous_size limit (pos 0) (xs ps) (zero_in limit) (range_xs limit ps g.range)))
stored_means (at_y rs l k ps x) z g u f =
    difference_key z (previous (ys ps)) (within_range limit z (fine_y limit rs l k ps x z f).0) (within_range limit (previous (ys ps)) (previous_size limit (pos 0) (ys ps) (zero_in limit) (range_ys limit ps g.0.range)))

pub means_stored : (b : Begun) (v w : ℕ) (z : ℤ) → Stores b v z → Stores b w z → v ≡ w
means_stored (at_layer rs) v w z p q = let e : pos v ≡ pos w = sym p ∙ q in cc
means_stored (at_count rs l) v w z p q = let e : pos v ≡ pos w = sym p ∙ q in cc
means_stored (at_x rs l k ps) v w z p q = p ∙ sym q
means_stored (at_y rs l k ps x) v w z p q = p ∙ sym q
