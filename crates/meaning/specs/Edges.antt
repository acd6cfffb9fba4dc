-- Edges, the counts they make, and what covers a cell.
--
--   edge layer y from to   an input edge
--   edges_of ns             the edges of a list of numbers, four to an edge; edge_numbers es: the numbers of a list of edges
--   west i e, east i e     e goes west (east) and spans column i
--   on c e, up_to j e       e is of layer c; its y is at most j
--   number p xs            how many of xs pass the test p
--   wests, easts           the west (east) edges of a layer that span column i and have y at most j
--   count es c i j         layer c's count at cell (i, j)
--   covers n               a layer whose count is n covers the cell: THE COVERAGE RULE, and nothing else knows it
--   Closed es              the list is closed
--   edge_rows top L ns      refusals 1 to 5 of an edge list whose layers are 0 to top, for the coordinate limit L
use Rattle.std.specs.Prelude.{◌≡◌, Bool, true, false, ◌&&◌, List, [], ◌∷◌, ◌++◌, ℕ, suc, ◌+◌, ◌<◌, ◌/◌, ◌%◌, ℤ, pos, ◌-ℤ◌, length}
use Rattle.std.specs.Int.Signed.{le_z, lt_z}
use Rattle.meaning.specs.Numbers.{bit, eq_z, in_range}
use Rattle.meaning.specs.Answers.{Answer, Row, given, not_fours, too_many_edges, out_of_range, from_equals_to, not_closed}

-- "An input edge is four signed 32-bit numbers: layer, y, from, to. It is horizontal at y."
pub data Edge (A : Type 0) : Type 0 where
  edge : A → A → A → A → Edge A

unfoldable pub edges_of : {A : Type 0} → List A → List (Edge A)
edges_of [] = []
edges_of (l ∷ []) = []
edges_of (l ∷ y ∷ []) = []
edges_of (l ∷ y ∷ f ∷ []) = []
edges_of (l ∷ y ∷ f ∷ t ∷ ns) = edge l y f t ∷ edges_of ns

unfoldable pub edge_numbers : {A : Type 0} → List (Edge A) → List A
edge_numbers [] = []
edge_numbers (edge l y f t ∷ es) = l ∷ y ∷ f ∷ t ∷ edge_numbers es

-- "an edge going west (from > to) has opaque above it, one going east has it below"
unfoldable pub west : ℤ → Edge ℤ → Bool
west i (edge l y f t) = le_z t i && lt_z i f

unfoldable pub east : ℤ → Edge ℤ → Bool
east i (edge l y f t) = le_z f i && lt_z i t

unfoldable pub on : ℕ → Edge ℤ → Bool
on c (edge l y f t) = eq_z l (pos c)

unfoldable pub up_to : ℤ → Edge ℤ → Bool
up_to j (edge l y f t) = le_z y j

unfoldable pub number : {A : Type 0} → (A → Bool) → List A → ℕ
number p [] = 0
number p (x ∷ xs) = bit (p x) + number p xs

-- "A layer's count at a cell is the number of its west edges, less its east edges, that span column i and have y at most j."
-- "Duplicates and overlaps count each time."
unfoldable pub wests : List (Edge ℤ) → ℕ → ℤ → ℤ → ℕ
wests es c i j = number (λ e. (on c e && west i e) && up_to j e) es

unfoldable pub easts : List (Edge ℤ) → ℕ → ℤ → ℤ → ℕ
easts es c i j = number (λ e. (on c e && east i e) && up_to j e) es

unfoldable pub count : List (Edge ℤ) → ℕ → ℤ → ℤ → ℤ
count es c i j = pos (wests es c i j) -ℤ pos (easts es c i j)

-- "The layer covers the cell where this count is at least 1."
unfoldable pub covers : ℤ → Bool
covers n = le_z (pos 1) n

-- "A list is closed when, for each layer and column, west and east edges spanning the column are equal in number."
unfoldable pub Closed : List (Edge ℤ) → Type 0
Closed es = (c : ℕ) (i : ℤ) → number (λ e. on c e && west i e) es ≡ number (λ e. on c e && east i e) es

-- ---- refusals 1 to 5

unfoldable pub sound_edge : ℕ → ℕ → Edge ℤ → Bool
sound_edge top L (edge l y f t) = (le_z (pos 0) l && le_z l (pos top)) && (in_range L y && (in_range L f && in_range L t))

unfoldable pub flat : Edge ℤ → Bool
flat (edge l y f t) = eq_z f t

-- "3 and 4 (lowest record; 3 before 4 in one record)": the rows of each record in turn, from record k on
abbrev pub record_rows : ℕ → ℕ → ℕ → List (Edge ℤ) → List (Row Answer)
record_rows top L k [] = []
record_rows top L k (e ∷ es) =
    given (sound_edge top L e ≡ false) (out_of_range k)
    ∷ given (flat e ≡ true) (from_equals_to k)
    ∷ record_rows top L (suc k) es

-- "Order for a run: 1, 2, then 3 and 4, 5 .."
abbrev pub edge_rows : ℕ → ℕ → List ℤ → List (Row Answer)
edge_rows top L ns =
    given (length ns % 4 ≡ 0 → ⊥) not_fours
    ∷ given (4096 < length ns / 4) too_many_edges
    ∷ (record_rows top L 0 (edges_of ns)
    ++ (given (Closed (edges_of ns) → ⊥) not_closed ∷ []))
