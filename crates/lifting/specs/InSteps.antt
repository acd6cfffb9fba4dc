-- Edges in steps, as columns.
--
--   InSteps es layers ys xs   the layers and the y of the edges es, and their ends, each from beside its to
--   no_edge                    any edge, for what stands past the end of a list
use Rattle.std.specs.Prelude.{◌≡◌, List, map, ℕ}
use Rattle.meaning.specs.Edges.{Edge, edge}
use Rattle.basic_laws.specs.Fours.{layer_of, y_of}
use Rattle.grid_laws.specs.Plane.{xs_of}

pub record InSteps (es : List (Edge ℕ)) (layers ys xs : List ℕ) : Type 0 where
  pub layers_are : layers ≡ map layer_of es
  pub ys_are : ys ≡ map y_of es
  pub xs_are : xs ≡ xs_of es

abbrev pub no_edge : Edge ℕ
no_edge = edge 0 0 0 0
