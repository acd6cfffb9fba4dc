-- The checked examples of document 01 that are proved, 1 to 10: one table, one meaning of right. The one theorem is in proofs/Table.antt.
--
--   Example    what an example says: a run with its records and area; a call that is accepted; a refusal; how a number is stored; what a file
--              is answered; what a record is drawn as
--   Right      what it means that an example is right, over the definitions
--   table      the examples, to the letter; where one names no edge list it takes A and B, where it names no expression `a`
use Rattle.std.specs.Prelude.{◌≡◌, List, [], ◌∷◌, ◌++◌, ℕ, ◌*◌, ◌≤◌, ℤ, pos, length, drop}
use Rattle.std.specs.Float.{binary32}
use Rattle.std.specs.Float.Ieee.{to_bits}
use Rattle.meaning.specs.Answers.{Answer, accepted, not_closed, not_in_grammar, holds_on_nothing, ends_inside, bad_number}
use Rattle.meaning.specs.Expression.{bytes}
use Rattle.meaning.specs.MaskFile.{spelt, five, signed}
use Rattle.meaning.specs.Faults.{Read}
use Rattle.meaning.specs.Calls.{outcome, Runs, Areas}
use Rattle.drawing.specs.Drawing.{Drawing}
use Rattle.drawing.specs.declared.Drawn.{Drawn}
use Rattle.drawing.specs.declared.Drawn.TheVariants.{Level, Upright, Refused}
use Rattle.drawing.proofs.Examples.{carried}

pub data Example : Type 0 where
  -- the edge list and the text give these records, as numbers, so many of them, and this area
  gives : List ℤ → List ℕ → List ℤ → ℕ → ℕ → Example
  -- they are accepted
  accepts : List ℤ → List ℕ → Example
  -- they are refused with this answer
  refuses : List ℤ → List ℕ → Answer → Example
  -- the signed number is stored as these bytes
  stores : ℤ → List ℕ → Example
  -- the mask file is answered so, and the buffer stays as it was
  reads_as : List ℕ → Answer → Example
  -- the record (kind, place, from, to), with the origin 0 and this zoom, is drawn as this, and its place has these bits
  draws : ℤ → ℤ → ℤ → ℤ → ℤ → Drawn → ℕ → Example

abbrev place_bits : Drawn → ℕ
place_bits (Level e) = to_bits binary32 e.place
place_bits (Upright e) = to_bits binary32 e.place
place_bits (Refused n) = 0

abbrev pub Right : Example → Type 0
Right (gives ns text rs k n) = ((out : List ℤ) → 4 * k ≤ length out → Runs ns text out (outcome (accepted k) (rs ++ drop (4 * k) out))) × Areas ns text (accepted n)
Right (accepts ns text) = (n : ℕ) × Areas ns text (accepted n)
Right (refuses ns text a) = ((out : List ℤ) → Runs ns text out (outcome a out)) × Areas ns text a
Right (stores z bs) = spelt five (signed z) ≡ bs
Right (reads_as f a) = (out : List ℤ) → Read f out (a, out)
Right (draws zoom kind place from to r bits) = Drawing (pos 0) (pos 0) zoom kind place from to r × (place_bits r ≡ bits)

abbrev pub edge : ℕ → ℕ → ℕ → ℕ → List ℤ
edge l y f t = pos l ∷ pos y ∷ pos f ∷ pos t ∷ []

-- "A is (0,0,10,0), (0,5,0,10); B is (1,2,14,6), (1,8,6,14)."
abbrev pub A : List ℤ
A = edge 0 0 10 0 ++ edge 0 5 0 10

abbrev pub B : List ℤ
B = edge 1 2 14 6 ++ edge 1 8 6 14

abbrev pub both : List ℤ
both = A ++ B

abbrev and_records : List ℤ
and_records = edge 0 2 10 6 ++ edge 0 5 6 10 ++ edge 1 6 2 5 ++ edge 1 10 5 2

abbrev or_records : List ℤ
or_records =
    edge 0 0 10 0 ++ edge 0 2 14 10 ++ edge 0 5 0 6 ++ edge 0 8 6 14
    ++ edge 1 0 0 5 ++ edge 1 6 5 8 ++ edge 1 10 2 0 ++ edge 1 14 8 2

-- "at y = 2 stand (0,2,6,10) and (0,2,14,10), not joined"
abbrev xor_records : List ℤ
xor_records =
    edge 0 0 10 0 ++ edge 0 2 6 10 ++ edge 0 2 14 10 ++ edge 0 5 0 6 ++ edge 0 5 10 6 ++ edge 0 8 6 14
    ++ edge 1 0 0 5 ++ edge 1 6 5 2 ++ edge 1 6 5 8 ++ edge 1 10 2 0 ++ edge 1 10 2 5 ++ edge 1 14 8 2

abbrev pub table : List Example
unfolding bytes
table =
    -- 1
    gives both (bytes "a*b") and_records 4 12
    -- 2
    ∷ gives both (bytes "a+b") or_records 8 86
    -- 3
    ∷ gives both (bytes "a^b") xor_records 12 74
    -- 4
    ∷ gives [] (bytes "a") [] 0 0
    -- 5
    ∷ refuses both (bytes "!a") holds_on_nothing
    ∷ refuses both (bytes "a+!a") holds_on_nothing
    ∷ accepts both (bytes "!a*b")
    -- 6
    ∷ refuses both (bytes "()") not_in_grammar
    -- 7
    ∷ refuses (edge 0 0 10 0) (bytes "a") not_closed
    -- 8
    ∷ stores (pos 100) (0xC8 ∷ 0x01 ∷ [])
    ∷ stores (pos 1073741824) (0x80 ∷ 0x80 ∷ 0x80 ∷ 0x80 ∷ 0x08 ∷ [])
    -- 9
    ∷ reads_as (0x80 ∷ 0x00 ∷ []) (bad_number 0)
    ∷ reads_as (0x01 ∷ []) (accepted 0)
    ∷ reads_as [] (ends_inside 0)
    -- 10
    ∷ draws (pos 1) (pos 0) (pos 5) (pos 6) (pos 10) (Level carried) 0x4020_0000
    ∷ []
