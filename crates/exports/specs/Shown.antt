-- A drawn edge as the C struct has it. Definitions only.
--
--   plus_zero          the float plus zero
--   refusal n          the struct of the refusal n: not upright, and three times plus zero
--   edge upright e     the struct of a drawn edge with the floats e: accepted is 0
--   shown d            the struct of drawing's answer d
--   Shows row r        r is the struct of an answer of which row holds: `Shows (Drawing ..)` is what the C function promises
--   Carries level dp df dt z r
--                      r is accepted, upright is 0 or 1 as `level` says, and its floats are exactly dp / 2^z, df / 2^z and dt / 2^z
--   table_rows ox oy zoom kind place from to
--                      the four refusals of drawing, in their order, each with its struct
--   Table ox oy zoom kind place from to r
--                      the same promise with no word of drawing's own answer: `shows_table` shows it of every r that the C function returns
use Rattle.std.specs.Prelude.{◌≡◌, Bool, false, List, [], ◌∷◌, ℕ, ℤ, pos, nat_abs, Float}
use Rattle.std.specs.Float.{fin}
use Rattle.meaning.specs.Numbers.{pick}
use Rattle.meaning.specs.Answers.{Row, given, First, out_of_range, from_equals_to, view_out_of_range, offset_too_large}
use Rattle.meaning.specs.Drawn.{view_in_range, record_in_range, is_level, place_offset, end_offset, all_drawn, ExactFloat}
use Rattle.drawing.specs.declared.Floats.{Floats}
use Rattle.drawing.specs.declared.Drawn.{Drawn}
use Rattle.drawing.specs.declared.Drawn.TheVariants.{Level, Upright, Refused}
use Rattle.exports.specs.declared.DrawnNumbers.{DrawnNumbers}

-- "Zero is plus zero."
abbrev pub plus_zero : Float
plus_zero = fin false 0 (pos 0)

abbrev pub refusal : ℕ → DrawnNumbers
refusal n = record { number = n; upright = 0; place = plus_zero; from = plus_zero; to = plus_zero }

-- "carries three such floats: its place and two ends"
abbrev pub edge : ℕ → Floats → DrawnNumbers
edge upright e = record { number = 0; upright = upright; place = e.place; from = e.from; to = e.to }

-- "A drawn edge is level or upright"
abbrev pub shown : Drawn → DrawnNumbers
shown (Level e) = edge 0 e
shown (Upright e) = edge 1 e
shown (Refused n) = refusal n

pub record Shows (row : Row Drawn) (r : DrawnNumbers) : Type 0 where
  pub drawn : Drawn
  pub answers : row drawn
  pub is : r ≡ shown drawn

-- ---- the same, as a table of structs

pub record Carries (level : Bool) (dp df dt : ℤ) (z : ℕ) (r : DrawnNumbers) : Type 0 where
  pub accepts : r.number ≡ 0
  pub turned : r.upright ≡ pick level 0 1
  pub place_exact : ExactFloat dp z r.place
  pub from_exact : ExactFloat df z r.from
  pub to_exact : ExactFloat dt z r.to

-- "Drawing: 19, 3, 4, 20"
abbrev pub table_rows : ℤ → ℤ → ℤ → ℤ → ℤ → ℤ → ℤ → List (Row DrawnNumbers)
table_rows ox oy zoom kind place from to =
    given (view_in_range ox oy zoom ≡ false) (refusal view_out_of_range.number)
    ∷ given (record_in_range kind place from to ≡ false) (refusal (out_of_range 0).number)
    ∷ given (from ≡ to) (refusal (from_equals_to 0).number)
    ∷ given (all_drawn (place_offset ox oy kind place) (end_offset ox oy kind from) (end_offset ox oy kind to) ≡ false) (refusal offset_too_large.number)
    ∷ []

unfoldable pub Table : ℤ → ℤ → ℤ → ℤ → ℤ → ℤ → ℤ → Row DrawnNumbers
Table ox oy zoom kind place from to =
    First (table_rows ox oy zoom kind place from to)
    (Carries (is_level kind) (place_offset ox oy kind place) (end_offset ox oy kind from) (end_offset ox oy kind to) (nat_abs zoom))
