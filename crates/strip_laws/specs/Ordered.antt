-- The edges of the plane, and the words, layers and ranks that the sweep is given.
--
--   EdgesOk es           at most 4,096 edges in steps, closed, their layers below 8 and their coordinates in range
--   Ordered base es ws layers xs ends values r   the words ws are the edges es in the order of y; layers has their layers; xs their ends, from and to side by side;
--                        values the r distinct x, rising, and ends the rank of each end
--   Strip values r s i   column i is in strip s: from the x of rank s on, below that of rank s + 1; the last strip has no end
use Rattle.std.specs.Prelude.{◌≡◌, true, List, map, ℕ, ◌+◌, ◌<◌, ◌≤◌, length, get_or}
use Rattle.meaning.specs.Edges.{Edge, edge}
use Rattle.basic_laws.specs.Fours.{layer_of, y_of, from_of, to_of}
use Rattle.basic_laws.specs.Lists.{All}
use Rattle.sum_laws.specs.Pairs.{Pairs}
use Rattle.grid_laws.specs.Plane.{ClosedN, xs_of, ys_of}
use Rattle.grid_laws.specs.Places.{has}
use Rattle.axis.specs.Axes.{InOrder, Ranks}

abbrev pub no_edge : Edge ℕ
no_edge = edge 0 0 0 0

pub record EdgesOk (es : List (Edge ℕ)) : Type 0 where
  pub few : length es ≤ 4096
  pub layers : All (λ e. layer_of e < 8) es
  pub closed : ClosedN es
  pub range_x : (v : ℕ) → has v (xs_of es) ≡ true → v ≤ 2147483648
  pub range_y : (v : ℕ) → has v (ys_of es) ≡ true → v ≤ 2147483648

pub record Ordered (base : ℕ) (es : List (Edge ℕ)) (ws layers xs ends values : List ℕ) (r : ℕ) : Type 0 where
  pub order : InOrder base (map y_of es) ws
  pub layer : (k : ℕ) → k < length es → get_or layers k 0 ≡ layer_of (get_or es k no_edge)
  pub long : length xs ≡ length es + length es
  pub sides : Pairs (λ k. from_of (get_or es k no_edge)) (λ k. to_of (get_or es k no_edge)) xs (length es)
  pub ranked : Ranks xs values ends r

pub record Strip (values : List ℕ) (r s i : ℕ) : Type 0 where
  pub there : s < r
  pub from : get_or values s 0 ≤ i
  pub to : s + 1 < r → i < get_or values (s + 1) 0
