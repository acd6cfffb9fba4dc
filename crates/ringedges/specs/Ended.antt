-- The edge that a due number ends. Coordinates stand 2^31 above themselves.
--
--   edge_at l y from to   an edge's four numbers
--   ended s v            those of the edge that the due number v ends, if it ends one: an x after the first ends the edge at the y before it, and
--                        the ring's last y has the edge back to its first x
use Rattle.std.specs.Prelude.{List, [], ◌∷◌, ℕ, eqb, ℤ, pos}
use Rattle.basic_laws.specs.Signed.{unkey_of}
use Rattle.meaning.specs.Numbers.{pick}
use Rattle.rings.specs.declared.Due.{Due}
use Rattle.rings.specs.declared.Due.TheVariants.{Layer, Count, X, Y}
use Rattle.rings.specs.declared.State.{State}

unfoldable pub edge_at : ℕ → ℕ → ℕ → ℕ → List ℤ
edge_at l y from to = pos l ∷ unkey_of y ∷ unkey_of from ∷ unkey_of to ∷ []

abbrev pub ended_by : Due → State → ℕ → List ℤ
ended_by Layer s v = []
ended_by Count s v = []
ended_by X s v = pick s.fresh [] (edge_at s.layer s.py s.px v)
ended_by Y s v = pick (eqb s.more 0) (edge_at s.layer v s.px s.fx) []

unfoldable pub ended : State → ℕ → List ℤ
ended s v = ended_by s.due s v
