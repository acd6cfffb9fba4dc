-- Drawn numbers: the view, a record's offsets in it, and the 32-bit float that is exactly an offset divided by 2^zoom.
--
--   view_in_range ox oy zoom      the origin (ox, oy) is within the coordinate range, and the zoom is from 0 to 16
--   record_in_range k p f t       the kind k is 0 or 1, and the place p and the ends f and t are coordinates
--   is_level kind                the kind is 0: the record is horizontal, and drawn level
--   place_offset ox oy kind c    the coordinate c of a record's place, less the origin of its axis
--   end_offset ox oy kind c      the same of one of the record's two ends
--   farthest                    the size of the largest offset that is drawn, 2^24
--   all_drawn p f t              each of the three offsets is drawn
--   sign r, exponent r, fraction r
--                               the three whole numbers that the 32 bits of the float r hold
--   Normal n z x t              the normal float with the exponent x and the fraction t has the size n / 2^z
--   Exactly d z s x t           the float with the sign s, the exponent x and the fraction t is d / 2^z, and zero is plus zero
--   ExactFloat d z r            r is a 32-bit float, and is exactly d / 2^z
--
-- No rounding is spoken of here: a float is read by its bits (`to_bits` of the library: what `f32::to_bits` answers, of every float but a NaN).
use Rattle.std.specs.Prelude.{◌≡◌, Bool, ◌&&◌, ℕ, zero, suc, ◌+◌, ◌*◌, ◌/◌, ◌%◌, ◌^◌, ◌<◌, T, ℤ, pos, negsuc, ◌-ℤ◌, Float}
use Rattle.std.specs.Float.{binary32}
use Rattle.std.specs.Float.Ieee.{to_bits, fits}
use Rattle.meaning.specs.Numbers.{pick, eq_z, limit, in_range, zero_to}

-- ---- the view and the record

-- "A view is an origin (ox, oy) within the coordinate range and a zoom z"; "zoom 0 to 16"
unfoldable pub view_in_range : ℤ → ℤ → ℤ → Bool
view_in_range ox oy zoom = in_range limit ox && in_range limit oy && zero_to 16 zoom

-- "layer, kind or coordinate out of range": of a record, which has no layer; "Kind 0 is horizontal at y = place, kind 1 vertical at x = place"
unfoldable pub record_in_range : ℤ → ℤ → ℤ → ℤ → Bool
record_in_range kind place from to = zero_to 1 kind && in_range limit place && in_range limit from && in_range limit to

-- ---- offsets: "(coordinate - origin of its axis)"

abbrev pub is_level : ℤ → Bool
is_level kind = eq_z kind (pos 0)

-- a place of kind 0 is a y, a place of kind 1 an x
abbrev pub place_offset : ℤ → ℤ → ℤ → ℤ → ℤ
place_offset ox oy kind c = c -ℤ pick (is_level kind) oy ox

-- the ends of kind 0 are x's, the ends of kind 1 y's
abbrev pub end_offset : ℤ → ℤ → ℤ → ℤ → ℤ
end_offset ox oy kind c = c -ℤ pick (is_level kind) ox oy

-- "An offset of size up to 16,777,216 is drawn; any larger one refuses, even where a float could hold it."
abbrev pub farthest : ℕ
farthest = 16777216

unfoldable pub all_drawn : ℤ → ℤ → ℤ → Bool
all_drawn p f t = in_range farthest p && in_range farthest f && in_range farthest t

-- ---- exactness: "Exactness is stated over the float's sign, exponent and fraction as whole numbers."

-- of the 32 bits the highest is the sign, the next 8 are the exponent, the lowest 23 the fraction
abbrev pub sign : Float → ℕ
sign r = to_bits binary32 r / 2 ^ 31

abbrev pub exponent : Float → ℕ
exponent r = to_bits binary32 r / 2 ^ 23 % 2 ^ 8

abbrev pub fraction : Float → ℕ
fraction r = to_bits binary32 r % 2 ^ 23

-- A float with an exponent x from 1 to 254 is called normal. Its size is (1 + t / 2^23) * 2^(x - 127), that is (2^23 + t) * 2^x / 2^150, where t is its
-- fraction. This size is n / 2^z exactly when `value` holds, in which both sides are multiplied by 2^z * 2^150.
pub record Normal (n z x t : ℕ) : Type 0 where
  pub above : 0 < x
  pub below : x < 255
  pub small : t < 2 ^ 23
  pub value : (2 ^ 23 + t) * 2 ^ (x + z) ≡ n * 2 ^ 150

-- "divided by 2^z, exactly"; "Zero is plus zero": all its bits are 0. `negsuc n` is -(n + 1).
abbrev pub Exactly : ℤ → ℕ → ℕ → ℕ → ℕ → Type 0
Exactly (pos zero) z s x t = (s ≡ 0) × (x ≡ 0) × (t ≡ 0)
Exactly (pos (suc n)) z s x t = (s ≡ 0) × Normal (suc n) z x t
Exactly (negsuc n) z s x t = (s ≡ 1) × Normal (suc n) z x t

-- "a 32-bit float equal to (coordinate - origin of its axis) divided by 2^z, exactly". The library's floats are of both widths: `single` says that r is of this one.
pub record ExactFloat (d : ℤ) (z : ℕ) (r : Float) : Type 0 where
  pub single : T (fits binary32 r)
  pub exact : Exactly d z (sign r) (exponent r) (fraction r)
