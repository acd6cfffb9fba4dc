-- What the sweep is given, and what it finds from one place on.
--
--   Given base ws layers ends truth vx n   the words of the edges in the order of y, their layers and the ranks of their ends in the table vx of the distinct x;
--                                the table of the expression; n strips are kept
--   At n ws layers ends g c m told d   at the place of word g: the rows have the edges before it, told has the covers at the last line, and no mark stands
--   FillOk, Fills                before and after the lines from the place of word g on
use Rattle.std.specs.Prelude.{◌≡◌, Bool, false, List, ◌++◌, map, ℕ, zero, ◌+◌, ◌<◌, ◌≤◌, length, get_or, drop}
use Rattle.meaning.specs.Records.{Record}
use Rattle.sum_laws.specs.Sums.{Ascending}
use Rattle.words.specs.Words.{value_of}
use Rattle.grid_laws.specs.Places.{Rising}
use Rattle.marks.specs.Marks.{FreshMarks}
use Rattle.crossings.specs.Swept.{Swept, edges_to, Words}
use Rattle.horizontal.specs.Words.{on_level, word_of}
use Rattle.weights.specs.Weights.{Weighed}
use Rattle.sweep_laws.specs.Lines.{PlaceAt, lines_to}
use Rattle.sweep.specs.declared.Filled.{Filled}

pub record Given (base : ℕ) (ws layers ends : List ℕ) (truth : List Bool) (vx : List ℕ) (n : ℕ) : Type 0 where
  pub words : Words n ws layers ends
  pub ascending : Ascending ws
  pub heights : (i : ℕ) → i < length ws → value_of base (get_or ws i 0) ≤ 2147483648
  pub rising : Rising zero vx
  pub each : (i : ℕ) → get_or vx i 0 ≤ 2147483648
  pub strips : length vx ≤ n
  pub ends_in : (p : ℕ) → p < length ends → get_or ends p 0 < length vx
  pub long_truth : length truth ≡ 256
  pub empty : get_or truth 0 false ≡ false

pub record At (n : ℕ) (ws layers ends : List ℕ) (g : ℕ) (c m told d : List ℕ) : Type 0 where
  pub place : PlaceAt ws g
  pub swept : Swept n (edges_to ws layers ends g) c m
  pub told_is : told ≡ m
  pub fresh : FreshMarks n d

pub record FillOk (base : ℕ) (ws layers ends : List ℕ) (truth : List Bool) (vx : List ℕ) (g : ℕ) (loc c m told d : List ℕ) : Type 0 where
  pub given : Given base ws layers ends truth vx (length m)
  pub at : At (length m) ws layers ends g c m told d
  pub room : length vx ≤ length loc

-- the lines from the place of word g to the answer's were found: rs are their horizontals
pub record Fills (base : ℕ) (ws layers ends : List ℕ) (truth : List Bool) (vx : List ℕ) (g sum : ℕ) (loc₀ loc c m told d₀ d : List ℕ) (r : Filled) : Type 0 where
  pub rs : List (Record ℕ)
  pub lines : lines_to base ws layers ends truth (length vx) r.next ≡ lines_to base ws layers ends truth (length vx) g ++ rs
  pub words : loc ≡ map word_of rs ++ drop (length rs) loc₀
  pub count : r.read.count ≡ length rs
  pub fits : length rs ≤ length loc₀
  pub weighed : Weighed sum (map (on_level vx) rs) r.read.sum
  pub at : At (length m) ws layers ends r.next c m told d
  pub marks_same : d ≡ d₀
  pub from : g ≤ r.next
  pub more : g < length ws → g < r.next
  -- it stops at the last place, or where there may be no room for one more line
  pub full : r.next < length ws → length loc₀ < length rs + length vx
