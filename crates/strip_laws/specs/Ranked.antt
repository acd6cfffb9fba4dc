-- The edge by ranks that a word stands for. What is shown of it is in proofs/Ranked.antt.
--
--   edge_as y layers ends w   the edge by ranks that a word stands for, at any y
use Rattle.std.specs.Prelude.{List, ℕ}
use Rattle.meaning.specs.Edges.{Edge, edge}
use Rattle.crossings.specs.Swept.{layer_of as layerIn, from_of as fromIn, to_of as toIn}

abbrev pub edge_as : ℕ → List ℕ → List ℕ → ℕ → Edge ℕ
edge_as y layers ends w = edge (layerIn layers w) y (fromIn ends w) (toIn ends w)
