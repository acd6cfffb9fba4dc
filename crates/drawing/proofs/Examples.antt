-- Example 10 of document 01, by computation. Assumes nothing.
use mathlib.Core.Path.{◌≡◌, refl, ap}
use mathlib.Core.Bool.{true, false}
use native.Mathlib.Omega.{arith}
use lib.IntN.{ℤ, pos, negsuc, nat_abs}
use lib.Dec.{lit<}
use lib.Ieee.{Float, fin, binary32, to_bits, fits}
use Rattle.meaning.specs.Numbers.{eq_z}
use Rattle.meaning.specs.Drawn.{view_in_range, record_in_range, all_drawn}
use Rattle.drawing.specs.Drawing.{ExactFloats, Drawing}
use Rattle.drawing.specs.declared.Floats.{Floats}
use Rattle.drawing.specs.declared.Drawn.TheVariants.{Level}
use Rattle.drawing.proofs.Rows.{goes_on, offset_shown}

-- 5 * 2^-1, 3 and 5
abbrev pub two_and_a_half : Float
two_and_a_half = fin false 5 (negsuc 0)

abbrev pub three : Float
three = fin false 3 (pos 0)

abbrev pub five : Float
five = fin false 5 (pos 0)

abbrev pub carried : Floats
carried = record { place = two_and_a_half; from = three; to = five }

computed : ExactFloats (pos 5) (pos 6) (pos 10) 1 carried
unfolding to_bits fits
computed = record {
  place_exact = record { single = tt; exact = (refl, record { above = lit< tt; below = lit< tt; small = lit< tt; value = refl }) };
  from_exact = record { single = tt; exact = (refl, record { above = lit< tt; below = lit< tt; small = lit< tt; value = refl }) };
  to_exact = record { single = tt; exact = (refl, record { above = lit< tt; below = lit< tt; small = lit< tt; value = refl }) };
}

differ : ◌≡◌ {A = ℤ} (pos 6) (pos 10) → ⊥
differ e = let z = ap nat_abs e in omega arith

-- "Draw (0,5,6,10), origin 0, zoom 1: level, 2.5, 3, 5; 2.5 has bits 40200000 (hexadecimal)."
pub example_10 : Drawing (pos 0) (pos 0) (pos 1) (pos 0) (pos 5) (pos 6) (pos 10) (Level carried) × (to_bits binary32 two_and_a_half ≡ 0x4020_0000)
unfolding view_in_range record_in_range all_drawn to_bits eq_z
example_10 = (
  goes_on (pos 0) (pos 0) (pos 1) (pos 0) (pos 5) (pos 6) (pos 10) true (Level carried) refl refl differ refl
      (offset_shown true (pos 5) (pos 6) (pos 10) 1 (Level carried) carried refl refl computed),
  refl,
)
