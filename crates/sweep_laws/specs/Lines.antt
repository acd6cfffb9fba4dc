-- The horizontals that the sweep finds, by ranks.
--
--   edge_by base layers ends w     the edge that the word w stands for: its x by ranks, its y in steps
--   edges_by base ws layers ends   those of all words, in their order
--   places ys                     the numbers of an ascending list, each once
--   PlaceAt ws g                  a place starts at word g, or the words end there
--   lines_to base ws layers ends truth nx e   the horizontals, by ranks below nx, of the lines of the first e words
use Rattle.std.specs.Prelude.{Bool, List, [], ◌∷◌, map, ℕ, suc, ◌<◌, ◌≤◌, eqb, length, get_or, take}
use Rattle.meaning.specs.Numbers.{pick}
use Rattle.meaning.specs.Edges.{Edge, edge}
use Rattle.meaning.specs.Records.{Record}
use Rattle.words.specs.Words.{value_of}
use Rattle.grid_laws.specs.Plane.{inside_n, level_n, kind_at}
use Rattle.strips.specs.Cover.{holds_of}
use Rattle.crossings.specs.Swept.{height_of, layer_of, from_of, to_of}
use Rattle.horizontal.specs.Words.{up_from}

abbrev pub edge_by : ℕ → List ℕ → List ℕ → ℕ → Edge ℕ
edge_by base layers ends w = edge (layer_of layers w) (value_of base w) (from_of ends w) (to_of ends w)

unfoldable pub edges_by : ℕ → List ℕ → List ℕ → List ℕ → List (Edge ℕ)
edges_by base ws layers ends = map (edge_by base layers ends) ws

-- the numbers of ys after y, each once
unfoldable pub places_after : ℕ → List ℕ → List ℕ
places_after y [] = []
places_after y (z ∷ zs) = pick (eqb y z) (places_after y zs) (z ∷ places_after z zs)

unfoldable pub places : List ℕ → List ℕ
places [] = []
places (y ∷ ys) = y ∷ places_after y ys

pub record PlaceAt (ws : List ℕ) (g : ℕ) : Type 0 where
  pub fits : g ≤ length ws
  pub above : (p : ℕ) → suc p ≤ g → g < length ws → height_of (get_or ws p 0) < height_of (get_or ws g 0)

unfoldable pub lines_to : ℕ → List ℕ → List ℕ → List ℕ → List Bool → ℕ → ℕ → List (Record ℕ)
lines_to base ws layers ends truth nx e =
    kind_at 0 (level_n (inside_n (holds_of truth) (edges_by base ws layers ends))) (places (map (value_of base) (take e ws))) (up_from 0 nx)
