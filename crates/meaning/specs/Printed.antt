-- What the program prints.
--
--   digit d               the byte of the digit d
--   digits f n            the decimal digits of n, the first not 0, and none where n is 0; n has at most f of them
--   decimal n             n in decimal without leading zeros
--   signed_text z          a whole number, with `-` before a negative one
--   text_line words        the words with one blank between neighbours, and a line feed at the end
--   first_line a           the first line: the number and the value of the answer a
--   record_line r          the line of a record: its four numbers
--   record_lines rs        the lines of the records rs
--   area_line n            the last line: `area` and the number n of cells
--   rest k rs n           what follows the first line of an answer of the number k
--   printed a rs n        the whole text of the answer a, which has the records rs and n inside cells where its number is 0
--
-- A text is a list of bytes.
use Rattle.std.specs.Prelude.{List, [], ◌∷◌, ◌++◌, ℕ, zero, suc, ◌+◌, ◌/◌, ◌%◌, ℤ, pos, negsuc}
use Prim.Native.Char.{code}
use Rattle.meaning.specs.Answers.{Answer}
use Rattle.meaning.specs.Records.{Record, rec}

abbrev pub digit : ℕ → ℕ
digit d = code "0" + d

unfoldable pub digits : ℕ → ℕ → List ℕ
digits zero n = []
digits (suc f) zero = []
digits (suc f) (suc n) = digits f (suc n / 10) ++ (digit (suc n % 10) ∷ [])

-- the last digit is always there, and those before it are the digits of n / 10, of which there are at most n
unfoldable pub decimal : ℕ → List ℕ
decimal n = digits n (n / 10) ++ (digit (n % 10) ∷ [])

-- `negsuc n` is -(n + 1)
unfoldable pub signed_text : ℤ → List ℕ
signed_text (pos n) = decimal n
signed_text (negsuc n) = code "-" ∷ decimal (suc n)

-- as the text of the program's example has it
unfoldable pub text_line : List (List ℕ) → List ℕ
text_line [] = code "\n" ∷ []
text_line (w ∷ []) = w ++ (code "\n" ∷ [])
text_line (w ∷ v ∷ words) = w ++ (code " " ∷ text_line (v ∷ words))

-- "It prints the number and the value"
unfoldable pub first_line : Answer → List ℕ
first_line a = text_line (decimal a.number ∷ decimal a.value ∷ [])

-- "A record is four numbers: kind, place, from, to."
unfoldable pub record_line : Record ℤ → List ℕ
record_line (rec kind place from to) = text_line (decimal kind ∷ signed_text place ∷ signed_text from ∷ signed_text to ∷ [])

unfoldable pub record_lines : List (Record ℤ) → List ℕ
record_lines [] = []
record_lines (r ∷ rs) = record_line r ++ record_lines rs

unfoldable pub area_line : ℕ → List ℕ
area_line n = text_line ((code "a" ∷ code "r" ∷ code "e" ∷ code "a" ∷ []) ∷ decimal n ∷ [])

-- "then on 0 each record, then `area` and the cells"; "On a refusal it prints the first line only."
abbrev pub rest : ℕ → List (Record ℤ) → ℕ → List ℕ
rest zero rs n = record_lines rs ++ area_line n
rest (suc number) rs n = []

unfoldable pub printed : Answer → List (Record ℤ) → ℕ → List ℕ
printed a rs n = first_line a ++ rest a.number rs n
