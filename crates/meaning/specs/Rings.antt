-- Rings and ring lists: what they are, which are good, their numbers in memory, and their edges.
--
--   Pair               x and y
--   Ring               a layer and its pairs
--   All P l            every element of l is P
--   cyclic l           each element of l with the one after it, and the last with the first
--   xs ps, ys ps       the x and the y of each pair
--   Differ zs          cyclic neighbours differ
--   GoodRing L r       a ring that the paper allows, with coordinates from -L to L
--   pairs_in rs         the pairs of all rings
--   GoodRings L rs     a ring list that the paper allows
--   ring_numbers rs     the ring list in memory
--   ring_edges rs       the numbers of its edges
--
-- The limit is a parameter throughout.
use Rattle.std.specs.Prelude.{◌≡◌, true, ◌≢◌, List, [], ◌∷◌, ◌++◌, map, ℕ, ◌+◌, ◌≤◌, ℤ, pos, length}
use Rattle.meaning.specs.Numbers.{in_range}

pub record Pair : Type 0 where
  pub x : ℤ
  pub y : ℤ

-- "A ring is a layer, a pair count k, then x1, y1 ..": k is the number of its pairs
pub record Ring : Type 0 where
  pub layer : ℕ
  pub pairs : List Pair

abbrev pub pair : ℤ → ℤ → Pair
pair x y = record { x = x; y = y }

abbrev pub ring : ℕ → List Pair → Ring
ring l ps = record { layer = l; pairs = ps }

abbrev pub All : {A : Type 0} → (A → Type 0) → List A → Type 0
All P [] = Unit {0}
All P (a ∷ l) = P a × All P l

-- from b on through l, and back to a
abbrev pub back_to : {A : Type 0} → A → A → List A → List (A × A)
back_to a b [] = (b, a) ∷ []
back_to a b (c ∷ l) = (b, c) ∷ back_to a c l

abbrev pub cyclic : {A : Type 0} → List A → List (A × A)
cyclic [] = []
cyclic (a ∷ l) = back_to a a l

abbrev pub xs : List Pair → List ℤ
xs ps = map (λ p. p.x) ps

abbrev pub ys : List Pair → List ℤ
ys ps = map (λ p. p.y) ps

-- "Cyclic neighbours in x and in y must differ."
abbrev pub Differ : List ℤ → Type 0
Differ zs = All (λ n. n.0 ≢ n.1) (cyclic zs)

abbrev pub InRange : ℕ → Pair → Type 0
InRange L p = (in_range L p.x ≡ true) × (in_range L p.y ≡ true)

-- refusal 15: "ring's layer over 7 or negative, k under 2, coordinate out of range"; refusal 16: "cyclic neighbours equal"
pub record GoodRing (L : ℕ) (r : Ring) : Type 0 where
  pub low : r.layer ≤ 7
  pub two : 2 ≤ length r.pairs
  pub range : All (InRange L) r.pairs
  pub differ_x : Differ (xs r.pairs)
  pub differ_y : Differ (ys r.pairs)

unfoldable pub pairs_in : List Ring → ℕ
pairs_in [] = 0
pairs_in (r ∷ rs) = length r.pairs + pairs_in rs

-- "At most 4,096 pairs in a file."
pub record GoodRings (L : ℕ) (rs : List Ring) : Type 0 where
  pub each : All (GoodRing L) rs
  pub few : pairs_in rs ≤ 4096

-- "In memory a ring list is layer, k, x1, y1, ..., xk, yk as plain numbers, ring after ring, and may be empty."
unfoldable pub pair_numbers : List Pair → List ℤ
pair_numbers [] = []
pair_numbers (p ∷ ps) = p.x ∷ p.y ∷ pair_numbers ps

unfoldable pub ring_numbers : List Ring → List ℤ
ring_numbers [] = []
ring_numbers (r ∷ rs) = pos r.layer ∷ pos (length r.pairs) ∷ pair_numbers r.pairs ++ ring_numbers rs

-- "Its k edges run at y_i from x_i to x_(i+1), the last back to x1." An edge is "layer, y, from, to"
abbrev pub side : ℕ → Pair → Pair → List ℤ
side l p q = pos l ∷ p.y ∷ p.x ∷ q.x ∷ []

unfoldable pub edges_between : ℕ → List (Pair × Pair) → List ℤ
edges_between l [] = []
edges_between l (n ∷ ns) = side l n.0 n.1 ++ edges_between l ns

unfoldable pub ring_edges : List Ring → List ℤ
ring_edges [] = []
ring_edges (r ∷ rs) = edges_between r.layer (cyclic r.pairs) ++ ring_edges rs
