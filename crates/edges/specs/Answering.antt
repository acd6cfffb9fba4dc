-- The rows of the table that `judge` decides.
--
--   list_rows top L ns    refusals 1 to 4 of an edge list: all rows of `edge_rows` but the last
use Rattle.std.specs.Prelude.{◌≡◌, List, ◌∷◌, ℕ, ◌/◌, ◌%◌, ◌<◌, ℤ, length}
use Rattle.meaning.specs.Answers.{Answer, Row, given, not_fours, too_many_edges}
use Rattle.meaning.specs.Edges.{edges_of, record_rows}

abbrev pub list_rows : ℕ → ℕ → List ℤ → List (Row Answer)
list_rows top L ns =
    given (length ns % 4 ≡ 0 → ⊥) not_fours
    ∷ given (4096 < length ns / 4) too_many_edges
    ∷ record_rows top L 0 (edges_of ns)
