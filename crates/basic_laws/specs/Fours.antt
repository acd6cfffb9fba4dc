-- A list of numbers, four to an edge: number j of record k, and the edges that the records are. Assumes nothing.
--
--   part ns k j     number j of record k
--   edge_at ns k     the edge that record k is
--   none            any edge, for what stands past the end of a list
--   edges_length    there is an edge for each four numbers
--   edges_at        and edge k is that of record k
--   edges_beside    edges put at the end of a list
--   layer_of, y_of, from_of, to_of   the numbers of an edge
use Rattle.std.specs.Prelude.{◌≡◌, refl, List, [], ◌∷◌, ◌++◌, ℕ, zero, suc, ◌+◌, ◌*◌, ◌/◌, ◌%◌, ◌<◌, ℤ, pos, length, get_or}
use Rattle.std.proofs.Common.{sym, ap, ◌∙◌, arith}
use Rattle.meaning.specs.Edges.{Edge, edge, edges_of, edge_numbers}

abbrev pub part : List ℤ → ℕ → ℕ → ℤ
part ns k j = get_or ns (4 * k + j) (pos 0)

unfoldable pub edge_at : List ℤ → ℕ → Edge ℤ
edge_at ns k = edge (part ns k 0) (part ns k 1) (part ns k 2) (part ns k 3)

abbrev pub none : Edge ℤ
none = edge (pos 0) (pos 0) (pos 0) (pos 0)

pub edges_length : (ns : List ℤ) → length (edges_of ns) ≡ length ns / 4
unfolding edges_of
edges_length [] = refl
edges_length (l ∷ []) = refl
edges_length (l ∷ y ∷ []) = refl
edges_length (l ∷ y ∷ f ∷ []) = refl
edges_length (l ∷ y ∷ f ∷ t ∷ ns) = ap suc (edges_length ns) ∙ omega arith

-- four numbers on, the same record stands one record earlier
part_later : (l y f t : ℤ) (ns : List ℤ) (k j : ℕ) → part (l ∷ y ∷ f ∷ t ∷ ns) (suc k) j ≡ part ns k j
part_later l y f t ns k j = ap (λ (n : ℕ). get_or (l ∷ y ∷ f ∷ t ∷ ns) n (pos 0)) (later k j)
  where
    later : (k j : ℕ) → 4 * suc k + j ≡ suc (suc (suc (suc (4 * k + j))))
    later k j = omega arith

pub edges_at : (ns : List ℤ) (k : ℕ) (d : Edge ℤ) → k < length ns / 4 → get_or (edges_of ns) k d ≡ edge_at ns k
unfolding edges_of edge_at
edges_at [] k d h = absurd (omega arith)
edges_at (l ∷ []) k d h = absurd (omega arith)
edges_at (l ∷ y ∷ []) k d h = absurd (omega arith)
edges_at (l ∷ y ∷ f ∷ []) k d h = absurd (omega arith)
edges_at (l ∷ y ∷ f ∷ t ∷ ns) zero d h = refl
edges_at (l ∷ y ∷ f ∷ t ∷ ns) (suc k) d h =
    edges_at ns k d (omega arith) ∙ sym (rw (part_later l y f t ns k 0, part_later l y f t ns k 1, part_later l y f t ns k 2, part_later l y f t ns k 3))

pub edges_beside : {A : Type 0} (ns : List A) (es : List (Edge A)) → length ns % 4 ≡ 0 → edges_of (ns ++ edge_numbers es) ≡ edges_of ns ++ es
unfolding edges_of edge_numbers
edges_beside [] [] h = refl
edges_beside [] (edge l y f t ∷ es) h = ap (◌∷◌ (edge l y f t)) (edges_beside [] es h)
edges_beside (a ∷ []) es h = absurd (omega arith)
edges_beside (a ∷ b ∷ []) es h = absurd (omega arith)
edges_beside (a ∷ b ∷ c ∷ []) es h = absurd (omega arith)
edges_beside (a ∷ b ∷ c ∷ d ∷ ns) es h = ap (◌∷◌ (edge a b c d)) (edges_beside ns es (omega arith))

-- ---- columns

abbrev pub layer_of : {A : Type 0} → Edge A → A
layer_of (edge l y f t) = l

abbrev pub y_of : {A : Type 0} → Edge A → A
y_of (edge l y f t) = y

abbrev pub from_of : {A : Type 0} → Edge A → A
from_of (edge l y f t) = f

abbrev pub to_of : {A : Type 0} → Edge A → A
to_of (edge l y f t) = t
