-- What the rows of the strips have after the edges crossed so far, and the edges of one place.
--
--   covers_by es r l            layer l covers strip r, by the one coverage rule, with just the edges es below it
--   Swept n es c m             each strip has 8,192 and the west edges of es that span it less the east ones, in each layer; and its cover
--   edge_of layers ends w       the edge in ranks that the word w stands for: w / 8,192 is its y, w % 8,192 its number k;
--                              layers has its layer, ends its from at k + k and its to at k + k + 1
--   edges_to ws layers ends e   the first e edges in the order of the words ws
--   Words n ws layers ends     the words, layers and ranks are sound
--   low_to, high_to              the least lower end and the greatest upper end of some edges
--   AdvanceOk, Advanced        before and after the edges of one place
--   many_at ws g                32 edges or more lie at the place of edge g, where the words are in the order of y
--   MarkOk, MarkedOne          before and after the marks of one edge
--   edges_from ws layers ends g k   the k edges from edge g on
--   MarkAllOk, PlaceMarked     before and after the marks of the edges of one place
use Rattle.std.specs.Prelude.{◌≡◌, ◌≢◌, Bool, not, ◌&&◌, List, map, ℕ, zero, suc, ◌+◌, ◌*◌, ◌-◌, ◌/◌, ◌%◌, ◌<◌, ◌≤◌, eqb, ltb, pos, ◌-ℤ◌, length, get_or, take, drop}
use Rattle.meaning.specs.Numbers.{pick}
use Rattle.meaning.specs.Edges.{Edge, edge, number, covers}
use Rattle.basic_laws.specs.Bits.{of_bits}
use Rattle.grid_laws.specs.Plane.{goes_west, goes_east}
use Rattle.strips.specs.Rows.{row_at}
use Rattle.strips.specs.Strips.{lower, upper, CrossOk, Crossed}
use Rattle.marks.specs.Marks.{Marked, FreshMarks, marked_by}
use Rattle.crossings.specs.declared.Reach.{Reach}
use Rattle.crossings.specs.declared.Touched.{Touched}

abbrev pub covers_by : List (Edge ℕ) → ℕ → ℕ → Bool
covers_by es r l = covers (pos (number (goes_west l r) es) -ℤ pos (number (goes_east l r) es))

pub record Swept (n : ℕ) (es : List (Edge ℕ)) (c m : List ℕ) : Type 0 where
  pub long : length c ≡ 8 * n
  pub long_covers : length m ≡ n
  pub counts : (l r : ℕ) → l < 8 → r < n → row_at n c l r + number (goes_east l r) es ≡ 8192 + number (goes_west l r) es
  pub covers : (r : ℕ) → r < n → get_or m r 0 ≡ of_bits 8 (covers_by es r)

-- ---- words in the order of y

abbrev pub height_of : ℕ → ℕ
height_of w = w / 8192

abbrev pub layer_of : List ℕ → ℕ → ℕ
layer_of layers w = get_or layers (w % 8192) 0

abbrev pub from_of : List ℕ → ℕ → ℕ
from_of ends w = get_or ends (w % 8192 + w % 8192) 0

abbrev pub to_of : List ℕ → ℕ → ℕ
to_of ends w = get_or ends (w % 8192 + w % 8192 + 1) 0

abbrev pub edge_of : List ℕ → List ℕ → ℕ → Edge ℕ
edge_of layers ends w = edge (layer_of layers w) (height_of w) (from_of ends w) (to_of ends w)

unfoldable pub edges_to : List ℕ → List ℕ → List ℕ → ℕ → List (Edge ℕ)
edges_to ws layers ends e = map (edge_of layers ends) (take e ws)

pub record Words (n : ℕ) (ws layers ends : List ℕ) : Type 0 where
  pub few : length ws ≤ 4096
  pub rows_few : n ≤ 8192
  pub known : (i : ℕ) → i < length ws → get_or ws i 0 % 8192 < length layers
  pub two : length ends ≡ length layers + length layers
  pub eight : (k : ℕ) → k < length layers → get_or layers k 0 < 8
  pub ranks : (p : ℕ) → p < length ends → get_or ends p 0 < n

-- ---- one edge

pub record PassOk (n w : ℕ) (layers ends c m : List ℕ) : Type 0 where
  pub known : w % 8192 < length layers
  pub two : length ends ≡ length layers + length layers
  pub cross : CrossOk n (layer_of layers w) (from_of ends w) (to_of ends w) c m

pub record Passing (n w : ℕ) (layers ends c₀ c m₀ m : List ℕ) (s : Reach) : Type 0 where
  pub crossed : Crossed n (layer_of layers w) (from_of ends w) (to_of ends w) c₀ c m₀ m
  pub lo : s.lo ≡ lower (from_of ends w) (to_of ends w)
  pub hi : s.hi ≡ upper (from_of ends w) (to_of ends w)

-- ---- the edges of one place

abbrev pub least_of : ℕ → ℕ → ℕ
least_of a b = pick (ltb a b) a b

abbrev pub most_of : ℕ → ℕ → ℕ
most_of a b = pick (ltb a b) b a

unfoldable pub low_to : (ℕ → ℕ) → ℕ → ℕ → ℕ
low_to h n zero = n
low_to h n (suc k) = least_of (low_to h n k) (h k)

unfoldable pub high_to : (ℕ → ℕ) → ℕ → ℕ
high_to h zero = 0
high_to h (suc k) = most_of (high_to h k) (h k)

abbrev pub lower_at : List ℕ → List ℕ → ℕ → ℕ → ℕ
lower_at ws ends g k = lower (from_of ends (get_or ws (g + k) 0)) (to_of ends (get_or ws (g + k) 0))

abbrev pub upper_at : List ℕ → List ℕ → ℕ → ℕ → ℕ
upper_at ws ends g k = upper (from_of ends (get_or ws (g + k) 0)) (to_of ends (get_or ws (g + k) 0))

pub record AdvanceOk (n : ℕ) (ws layers ends : List ℕ) (g : ℕ) (c m : List ℕ) : Type 0 where
  pub words : Words n ws layers ends
  pub some : g < length ws
  pub swept : Swept n (edges_to ws layers ends g) c m

pub record Advanced (n : ℕ) (ws layers ends : List ℕ) (g : ℕ) (c₀ c m₀ m : List ℕ) (t : Touched) : Type 0 where
  -- the next edge is the first of another place
  pub more : g < t.next
  pub fits : t.next ≤ length ws
  pub here : (i : ℕ) → g ≤ i → i < t.next → height_of (get_or ws i 0) ≡ height_of (get_or ws g 0)
  pub stop : t.next < length ws → height_of (get_or ws t.next 0) ≢ height_of (get_or ws g 0)
  -- the rows have all edges before it
  pub swept : Swept n (edges_to ws layers ends t.next) c m
  -- the touched strips: from the least end of the place's edges to the greatest
  pub lo : t.lo ≡ low_to (lower_at ws ends g) n (t.next - g)
  pub hi : t.hi ≡ high_to (upper_at ws ends g) (t.next - g)
  pub order : (t.lo ≤ n) × (t.hi ≤ n)
  pub across : t.lo ≤ t.hi
  pub below : (m : ℕ) → ((p : ℕ) → p < length ends → get_or ends p 0 < m) → t.hi < m
  -- no other strip is changed
  pub still : (l r : ℕ) → l < 8 → r < n → (t.lo ≤ r → r < t.hi → ⊥) → row_at n c l r ≡ row_at n c₀ l r
  pub still_covers : (r : ℕ) → r < n → (t.lo ≤ r → r < t.hi → ⊥) → get_or m r 0 ≡ get_or m₀ r 0

-- ---- many edges at one place

unfoldable pub many_at : List ℕ → ℕ → Bool
many_at ws g = not (ltb (length ws - g) 32) && eqb (height_of (get_or ws (g + 32 - 1) 0)) (height_of (get_or ws g 0))

pub record MarkOk (n w : ℕ) (layers ends d : List ℕ) : Type 0 where
  pub known : w % 8192 < length layers
  pub two : length ends ≡ length layers + length layers
  pub long : length d ≡ 8 * n
  pub few : n ≤ 8192
  pub layer : layer_of layers w < 8
  pub from : from_of ends w < n
  pub to : to_of ends w < n
  pub low : 0 < row_at n d (layer_of layers w) (from_of ends w)
  pub high : row_at n d (layer_of layers w) (to_of ends w) < 65535

pub record MarkedOne (n w : ℕ) (layers ends d₀ d : List ℕ) (s : Reach) : Type 0 where
  pub marked : d ≡ marked_by n (layer_of layers w) (from_of ends w) (to_of ends w) d₀
  pub lo : s.lo ≡ lower (from_of ends w) (to_of ends w)
  pub hi : s.hi ≡ upper (from_of ends w) (to_of ends w)

abbrev pub edges_from : List ℕ → List ℕ → List ℕ → ℕ → ℕ → List (Edge ℕ)
edges_from ws layers ends g k = edges_to (drop g ws) layers ends k

pub record MarkAllOk (n : ℕ) (ws layers ends : List ℕ) (g : ℕ) (d : List ℕ) : Type 0 where
  pub words : Words n ws layers ends
  pub some : g < length ws
  pub fresh : FreshMarks n d

pub record PlaceMarked (n : ℕ) (ws layers ends : List ℕ) (g : ℕ) (d : List ℕ) (t : Touched) : Type 0 where
  pub more : g < t.next
  pub fits : t.next ≤ length ws
  pub here : (i : ℕ) → g ≤ i → i < t.next → height_of (get_or ws i 0) ≡ height_of (get_or ws g 0)
  pub stop : t.next < length ws → height_of (get_or ws t.next 0) ≢ height_of (get_or ws g 0)
  pub lo : t.lo ≡ low_to (lower_at ws ends g) n (t.next - g)
  pub hi : t.hi ≡ high_to (upper_at ws ends g) (t.next - g)
  pub order : (t.lo ≤ n) × (t.hi ≤ n)
  pub across : t.lo ≤ t.hi
  pub below : (m : ℕ) → ((p : ℕ) → p < length ends → get_or ends p 0 < m) → t.hi < m
  -- the marks have all edges of the place
  pub marked : Marked n (edges_from ws layers ends g (t.next - g)) d
