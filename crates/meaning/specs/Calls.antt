-- The calls run and area: what each answers, and what it leaves in the buffer that it was lent.
--
--   cells_of ns e        the cells inside the result of the expression e over the edge list ns
--   records_of ns e      its records, in their order; area_of ns e: how many cells
--   Outcome             an answer, and the contents of the lent buffer afterwards
--   unchanged out row   the refusal `row`, with the buffer as it was
--   call_rows ns text    refusals 1 to 9, in their order
--   Runs ns text out o  o is the outcome of a run, lent the buffer out
--   Areas ns text a     a is the answer of the area call
use Rattle.std.specs.Prelude.{◌≡◌, Bool, List, [], ◌∷◌, ◌++◌, map, ℕ, ◌*◌, ◌<◌, ℤ, length, drop}
use Rattle.meaning.specs.Numbers.{limit}
use Rattle.meaning.specs.Answers.{Answer, accepted, Row, First, too_little_room}
use Rattle.meaning.specs.Edges.{edges_of, edge_rows}
use Rattle.meaning.specs.Expression.{Expr, eval, sum, Is, refusals}
use Rattle.meaning.specs.Cells.{inside}
use Rattle.meaning.specs.Records.{Record, result, numbers_of}
use Rattle.meaning.specs.Area.{cells}

-- "A unit cell is inside the result exactly when the expression holds of the layers covering it"
unfoldable pub cells_of : List ℤ → Expr → ℤ → ℤ → Bool
cells_of ns e = inside (λ h. eval h e) (edges_of ns)

unfoldable pub records_of : List ℤ → Expr → List (Record ℤ)
records_of ns e = result limit (cells_of ns e)

unfoldable pub area_of : List ℤ → Expr → ℕ
area_of ns e = cells limit (cells_of ns e)

pub record Outcome : Type 0 where
  pub answer : Answer
  pub buffer : List ℤ

abbrev pub outcome : Answer → List ℤ → Outcome
outcome a out = record { answer = a; buffer = out }

-- "Result buffers are unchanged by every refusal"
abbrev pub unchanged : List ℤ → Row Answer → Row Outcome
unchanged out row o = row o.answer × (o.buffer ≡ out)

-- "Order for a run: 1, 2, then 3 and 4 .., 5 to 10 as numbered"; eight layers, 0 to 7
abbrev pub call_rows : List ℤ → List ℕ → List (Row Answer)
call_rows ns text = edge_rows 7 limit ns ++ refusals text

-- 10: "record room under four numbers a record"; "records needed"
abbrev pub Short : List ℤ → List ℕ → List ℤ → Row Outcome
Short ns text out o =
    (e : Expr) × Is sum text e × (length out < 4 * length (records_of ns e)) × (o ≡ outcome (too_little_room (length (records_of ns e))) out)

-- "An accepted call answers 0 with: records (run)"; "The buffer past the last record is untouched."
abbrev pub Recorded : List ℤ → List ℕ → List ℤ → Row Outcome
Recorded ns text out o =
    (e : Expr) × Is sum text e
    × (o ≡ outcome (accepted (length (records_of ns e))) (numbers_of (records_of ns e) ++ drop (4 * length (records_of ns e)) out))

unfoldable pub Runs : List ℤ → List ℕ → List ℤ → Outcome → Type 0
Runs ns text out = First (map (unchanged out) (call_rows ns text) ++ (Short ns text out ∷ [])) (Recorded ns text out)

-- "The area call takes edges and expression, lends no record room, and refuses as the run does except for 10." "cells (area)"
unfoldable pub Areas : List ℤ → List ℕ → Answer → Type 0
Areas ns text = First (call_rows ns text) (λ a. (e : Expr) × Is sum text e × (a ≡ accepted (area_of ns e)))
