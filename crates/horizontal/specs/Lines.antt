-- The horizontals of one line, by ranks.
--
--   line_records y nx was is   the records of the line at y: the strips below rank nx that were inside just below it, and those that are just above it
use Rattle.std.specs.Prelude.{Bool, List, map, ℕ}
use Rattle.meaning.specs.Cells.{turn}
use Rattle.meaning.specs.Records.{Record}
use Rattle.grid_laws.specs.Plane.{record_at, line_over}
use Rattle.horizontal.specs.Words.{up_from}

unfoldable pub line_records : ℕ → ℕ → (ℕ → Bool) → (ℕ → Bool) → List (Record ℕ)
line_records y nx was is = map (record_at 0 y) (line_over (λ r. turn (was r) (is r)) (up_from 0 nx))
