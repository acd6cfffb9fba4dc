-- The program: what it prints for its input.
--
--   text_of input, file_of input   the bytes before the first line feed, and the bytes after it
--   records_room                 the records for which the program has room
--   refuses row out              out is the first line of a refusal that the row gives
--   file_rows input               the refusals of the input and of the file, in their order
--   NoRoom ns text               refusal 10 of a call that has room for so many
--   ring_rows ns text             the refusals of the call over the edges of the file
--   Shown ns text out            the text of an accepted call
--   Prints input out             out is what the program prints for the input
use Rattle.std.specs.Prelude.{◌≡◌, List, [], ◌∷◌, ◌++◌, map, ℕ, ◌<◌, eqb, ℤ, length}
use Prim.Native.Char.{code}
use Rattle.meaning.specs.Numbers.{pick, limit}
use Rattle.meaning.specs.Answers.{Answer, accepted, Row, given, First, file_too_long, too_little_room}
use Rattle.meaning.specs.Expression.{Expr, sum, Is}
use Rattle.meaning.specs.Calls.{records_of, area_of, call_rows}
use Rattle.meaning.specs.Rings.{Ring, GoodRings, ring_edges}
use Rattle.meaning.specs.MaskFile.{five, bytes_of, longest}
use Rattle.meaning.specs.Faults.{FileFault}
use Rattle.meaning.specs.Printed.{first_line, printed}

-- "It reads standard input: the expression, a line feed, a mask file. With no line feed all is expression and the file is empty."
unfoldable pub text_of : List ℕ → List ℕ
text_of [] = []
text_of (b ∷ bs) = pick (eqb b (code "\n")) [] (b ∷ text_of bs)

unfoldable pub file_of : List ℕ → List ℕ
file_of [] = []
file_of (b ∷ bs) = pick (eqb b (code "\n")) bs (file_of bs)

-- "It has room for 2,048 records."
abbrev pub records_room : ℕ
records_room = 2048

-- "On a refusal it prints the first line only."
abbrev pub refuses : Row Answer → Row (List ℕ)
refuses row out = (a : Answer) × row a × (out ≡ first_line a)

-- "Input over 65,536 bytes answers 11. The file is judged first."; "File: 11, then the first faulty number from the front"
abbrev pub file_rows : List ℕ → List (Row Answer)
file_rows input = given (65536 < length input) file_too_long ∷ given (longest < length (file_of input)) file_too_long ∷ FileFault five limit (file_of input) ∷ []

-- 10: "record room under four numbers a record"; "records needed"
abbrev pub NoRoom : List ℤ → List ℕ → Row Answer
NoRoom ns text a = (e : Expr) × Is sum text e × (records_room < length (records_of ns e)) × (a ≡ too_little_room (length (records_of ns e)))

abbrev pub ring_rows : List ℤ → List ℕ → List (Row Answer)
ring_rows ns text = call_rows ns text ++ (NoRoom ns text ∷ [])

-- "It prints the number and the value, then on 0 each record, then `area` and the cells."
abbrev pub Shown : List ℤ → List ℕ → Row (List ℕ)
Shown ns text out = (e : Expr) × Is sum text e × (out ≡ printed (accepted (length (records_of ns e))) (records_of ns e) (area_of ns e))

unfoldable pub Prints : List ℕ → Row (List ℕ)
Prints input =
    First (map refuses (file_rows input))
    (λ out. (rs : List Ring) × GoodRings limit rs × (file_of input ≡ bytes_of five rs)
    × First (map refuses (ring_rows (ring_edges rs) (text_of input))) (Shown (ring_edges rs) (text_of input)) out)
