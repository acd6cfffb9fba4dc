-- What drawing one record answers, for every input. Definitions only.
--
--   answer_of r                      the number and the value of the table, for each case of an answer r
--   refuses fact a r                the row that answers a, "given exactly when" fact holds: r is the refusal with a's number
--   ExactFloats dp df dt z e        the place and the two ends that e carries are exactly dp / 2^z, df / 2^z and dt / 2^z
--   Shown level dp df dt z r        r is accepted, is level or upright as `level` says, and carries such floats
--   ByOffsets level dp df dt z r    r is 20 where an offset is too large, and else such an edge
--   rows ox oy zoom kind place from to
--                                   the four refusals of drawing, in their order
--   Drawing ox oy zoom kind place from to r
--                                   r is what the record (kind, place, from, to) is drawn as in the view (ox, oy, zoom)
use Rattle.std.specs.Prelude.{◌≡◌, Bool, false, List, [], ◌∷◌, ℕ, ℤ, nat_abs}
use Rattle.meaning.specs.Numbers.{pick}
use Rattle.meaning.specs.Answers.{Answer, answer, accepted, Row, given, First, out_of_range, from_equals_to, view_out_of_range, offset_too_large}
use Rattle.meaning.specs.Drawn.{view_in_range, record_in_range, is_level, place_offset, end_offset, all_drawn, ExactFloat}
use Rattle.drawing.specs.declared.Floats.{Floats}
use Rattle.drawing.specs.declared.Drawn.{Drawn}
use Rattle.drawing.specs.declared.Drawn.TheVariants.{Level, Upright, Refused}

-- "Every answer has a number and a value." "An accepted call answers 0 with: .. 0 (draw)"; every refusal of drawing has the value 0.
abbrev pub answer_of : Drawn → Answer
answer_of (Level e) = accepted 0
answer_of (Upright e) = accepted 0
answer_of (Refused n) = answer n 0

-- Every refusal is the answer of some r, so a row says nothing exactly when its fact fails.
abbrev pub refuses : Type 0 → Answer → Row Drawn
refuses fact a r = given fact a (answer_of r)

-- "carries three such floats: its place and two ends"
pub record ExactFloats (dp df dt : ℤ) (z : ℕ) (e : Floats) : Type 0 where
  pub place_exact : ExactFloat dp z e.place
  pub from_exact : ExactFloat df z e.from
  pub to_exact : ExactFloat dt z e.to

-- "A drawn edge is level or upright"
pub record Shown (level : Bool) (dp df dt : ℤ) (z : ℕ) (r : Drawn) : Type 0 where
  pub accepts : answer_of r ≡ accepted 0
  pub floats : Floats
  pub edge : r ≡ pick level (Level floats) (Upright floats)
  pub exact : ExactFloats dp df dt z floats

unfoldable pub ByOffsets : Bool → ℤ → ℤ → ℤ → ℕ → Row Drawn
ByOffsets level dp df dt z = First (refuses (all_drawn dp df dt ≡ false) offset_too_large ∷ []) (Shown level dp df dt z)

-- "Drawing: 19, 3, 4, 20; one record is drawn, given as four numbers, so its value in 3 and 4 is 0."
abbrev pub rows : ℤ → ℤ → ℤ → ℤ → ℤ → ℤ → ℤ → List (Row Drawn)
rows ox oy zoom kind place from to =
    refuses (view_in_range ox oy zoom ≡ false) view_out_of_range
    ∷ refuses (record_in_range kind place from to ≡ false) (out_of_range 0)
    ∷ refuses (from ≡ to) (from_equals_to 0)
    ∷ refuses (all_drawn (place_offset ox oy kind place) (end_offset ox oy kind from) (end_offset ox oy kind to) ≡ false) offset_too_large
    ∷ []

-- past the rows the zoom is not negative, so that `nat_abs zoom` is the zoom
unfoldable pub Drawing : ℤ → ℤ → ℤ → ℤ → ℤ → ℤ → ℤ → Row Drawn
Drawing ox oy zoom kind place from to =
    First (rows ox oy zoom kind place from to)
    (Shown (is_level kind) (place_offset ox oy kind place) (end_offset ox oy kind from) (end_offset ox oy kind to) (nat_abs zoom))
