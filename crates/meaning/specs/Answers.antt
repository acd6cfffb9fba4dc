-- The table of refusals: "Every answer has a number and a value."
--
--   Answer             a number of the table and its value
--   accepted v         0 with the value v
--   Row                a row of the table: what it says of an answer
--   given fact a       the row that answers a, "given exactly when" fact holds
--   First rows Last r  read from the top, the first row whose fact holds gives r; where none does, Last says what r is
--
-- After these the table itself: one name for each of its rows.
use Rattle.std.specs.Prelude.{◌≡◌, ◌⊎◌, List, [], ◌∷◌, ℕ}

pub record Answer : Type 0 where
  pub number : ℕ
  pub value : ℕ

abbrev pub answer : ℕ → ℕ → Answer
answer n v = record { number = n; value = v }

-- "An accepted call answers 0 with: records (run), cells (area), numbers written (read, edges of a ring list), bytes (write), 0 (draw)"
abbrev pub accepted : ℕ → Answer
accepted v = answer 0 v

-- ---- tables in order; A is what a call answers

abbrev pub Row : Type 0 → Type 1
Row A = A → Type 0

abbrev pub given : {A : Type 0} → Type 0 → A → Row A
given fact a r = fact × (r ≡ a)

abbrev pub First : {A : Type 0} → List (Row A) → Row A → Row A
First [] Last r = Last r
First {A} (row ∷ rows) Last r = row r ⊎ (((s : A) → row s → ⊥) × First rows Last r)

-- ---- the table

-- 1: edge list length not a multiple of 4
abbrev pub not_fours : Answer
not_fours = answer 1 0

-- 2: over 4,096 edges
abbrev pub too_many_edges : Answer
too_many_edges = answer 2 0

-- 3: layer, kind or coordinate out of range; the record, from 0
abbrev pub out_of_range : ℕ → Answer
out_of_range k = answer 3 k

-- 4: from equals to; the record, from 0
abbrev pub from_equals_to : ℕ → Answer
from_equals_to k = answer 4 k

-- 5: list not closed
abbrev pub not_closed : Answer
not_closed = answer 5 0

-- 6: expression of 0 or over 64 bytes
abbrev pub expression_length : Answer
expression_length = answer 6 0

-- 7: some beginning of it has over 16 more `(` than `)`
abbrev pub too_deep : Answer
too_deep = answer 7 0

-- 8: not in the grammar
abbrev pub not_in_grammar : Answer
not_in_grammar = answer 8 0

-- 9: holds where nothing covers
abbrev pub holds_on_nothing : Answer
holds_on_nothing = answer 9 0

-- 10: record room under four numbers a record; the records needed
abbrev pub too_little_room : ℕ → Answer
too_little_room records = answer 10 records

-- 11: file over 49,152 bytes
abbrev pub file_too_long : Answer
file_too_long = answer 11 0

-- 12: file or ring list ends inside a number or ring, or has no edition; its length
abbrev pub ends_inside : ℕ → Answer
ends_inside len = answer 12 len

-- 13: number not shortest, minus zero, or fifth group continued; the start of the number
abbrev pub bad_number : ℕ → Answer
bad_number at = answer 13 at

-- 14: edition not 1
abbrev pub other_edition : Answer
other_edition = answer 14 0

-- 15: ring's layer over 7 or negative, k under 2, coordinate out of range; the start of the number
abbrev pub ring_out_of_range : ℕ → Answer
ring_out_of_range at = answer 15 at

-- 16: cyclic neighbours equal; the start of the number
abbrev pub neighbours_equal : ℕ → Answer
neighbours_equal at = answer 16 at

-- 17: pair total passes 4,096; the start of the k
abbrev pub too_many_pairs : ℕ → Answer
too_many_pairs at = answer 17 at

-- 18: room for numbers, bytes or edges too short; the length needed
abbrev pub room_too_short : ℕ → Answer
room_too_short needed = answer 18 needed

-- 19: view out of range
abbrev pub view_out_of_range : Answer
view_out_of_range = answer 19 0

-- 20: an offset over 16,777,216
abbrev pub offset_too_large : Answer
offset_too_large = answer 20 0
