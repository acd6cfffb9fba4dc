-- The laws, by name, each with what it says in a line. Nothing is stated here: each is stated and proved where its line names it.
-- `L` is any coordinate limit, `g` any set of cells within it, `es` any list of edges, `holds` any expression.

-- WHEN A PIECE IS LISTED: a unit piece is in exactly one record of its direction where its two side cells differ, in none where they do not
pub use Rattle.laws.specs.Listed.{level_listed, upright_listed}
-- IN ORDER: by kind, place and lesser end; records of a line lie apart, and touch only where the direction turns, so each is as long as can be
pub use Rattle.laws.specs.Ordered.{result_in_order}
-- ONE LIST: two lists in order that list the same pieces are the same; so a list in order that lists exactly the pieces between differing cells
-- is the result
pub use Rattle.laws.specs.OnlyOne.{only_one, one_result, result_in_range}
-- NOTHING OUTSIDE: a sound, closed list has no inside cell outside the range, where the expression does not hold of nothing
pub use Rattle.laws.specs.Covered.{inside_within}
-- WHERE TO LOOK: counts, and so cells, change only at the ends of edges and at their y
pub use Rattle.laws.specs.Covered.{same_columns, same_rows}
-- CORNERS: a count is the number of to-corners up to the cell, less that of from-corners
pub use Rattle.laws.specs.Columns.{corners}
-- CLOSED: by columns; by corners up to each column; by ends
pub use Rattle.laws.specs.Columns.{closed_up_to, up_to_closed}
pub use Rattle.laws.specs.Ends.{closed_ends, ends_closed}
-- THE AREA: the sum of y times (to - from) over the kind 0 records is the number of inside cells, which is at most (2 * L)^2; and a sum that
-- wraps modulo 2^64 ends at the same number
pub use Rattle.laws.specs.Areas.{signed_area, area_at_most}
pub use Rattle.grid_laws.specs.Wrap.{area_wraps}
-- A RESULT AS A LAYER: put in, its count is 1 at each of its cells and 0 elsewhere, it is closed, and other layers have nothing of it
pub use Rattle.laws.specs.Parts.{put_in_adds, put_in_closed, put_in_other}
-- WORK BY PARTS: an expression over a layer that holds a part's result is the expression with the part in the layer's place
pub use Rattle.laws.specs.Parts.{by_parts}
-- AND PLUS OR: the cells of AND and those of OR are together the cells of both
pub use Rattle.laws.specs.Parts.{cells_and_or}
-- AS MANY OF EACH KIND: a result has as many horizontal records as vertical ones
pub use Rattle.laws.specs.Parts.{kinds_even}
-- THE VIEW: result and cells may be worked out in steps from the least coordinate, and there only at the places of the edges
pub use Rattle.laws.specs.View.{result_view, cells_view}
pub use Rattle.laws.specs.Covered.{inside_view, closed_view}
pub use Rattle.grid_laws.specs.Compression.{result_at_is}
-- ACCEPTED: refusals 1 to 5 let a list pass exactly when its numbers are at most 4,096 sound edges, none of them flat, and closed
pub use Rattle.laws.specs.Accepting.{edges_pass, edges_passed}
-- ONE ANSWER: a table of refusals says one answer, for every call
pub use Rattle.basic_laws.specs.Tables.{one_answer}
