-- The state of the code after what has been read.
--
--   state_of b     the state after the beginning b
--   keyed b z     the due number z as the code has it: a layer or a k itself, a coordinate 2^31 above itself
use Rattle.std.specs.Prelude.{Bool, true, false, List, [], ◌∷◌, ℕ, suc, ◌-◌, ℤ, pos, nat_abs, length}
use Rattle.basic_laws.specs.Signed.{key_of}
use Rattle.meaning.specs.Rings.{xs, ys, pairs_in}
use Rattle.meaning.specs.Faults.{Begun, at_layer, at_count, at_x, at_y, previous}
use Rattle.rings.specs.State.{start}
use Rattle.rings.specs.declared.Due.TheVariants.{Count, X, Y}
use Rattle.rings.specs.declared.State.{State}

abbrev pub is_none : {A : Type 0} → List A → Bool
is_none [] = true
is_none (a ∷ l) = false

abbrev pub first_or : ℤ → List ℤ → ℤ
first_or z [] = z
first_or z (a ∷ l) = a

abbrev pub state_of : Begun → State
state_of (at_layer rs) = start (4096 - pairs_in rs)
state_of (at_count rs l) = record { due = Count; layer = l; more = 0; room = 4096 - pairs_in rs; fresh = true; px = 2147483648; py = 2147483648; fx = 2147483648; fy = 2147483648 }
state_of (at_x rs l k ps) = record { due = X; layer = l; more = k - suc (length ps); room = 4096 - pairs_in rs - k; fresh = is_none ps; px = key_of (previous (xs ps)); py = key_of (previous (ys ps)); fx = key_of (first_or (pos 0) (xs ps)); fy = key_of (first_or (pos 0) (ys ps)) }
state_of (at_y rs l k ps x) = record { due = Y; layer = l; more = k - suc (length ps); room = 4096 - pairs_in rs - k; fresh = is_none ps; px = key_of x; py = key_of (previous (ys ps)); fx = key_of (first_or x (xs ps)); fy = key_of (first_or (pos 0) (ys ps)) }

abbrev pub keyed : Begun → ℤ → ℕ
keyed (at_layer rs) z = nat_abs z
keyed (at_count rs l) z = nat_abs z
keyed (at_x rs l k ps) z = key_of z
keyed (at_y rs l k ps x) z = key_of z
