-- Closed by ends, on the ranks of the x.
--
--   edges_by layers ends       the edges in ranks: each has a layer, and its from beside its to in ends; their y is of no matter, and 0
--   EvenAt es l x             as many edges of layer l begin at x as end there
--   LeastUneven es x          x is the least at which some layer has not as many edges that begin as that end
--   Answers es r              what the answer r says of the edges es
--   TestOk, Tested            before and after `test`
--   EvenFrom c a b            the marks from a on, below b, are zero
--   RowsOk n nx c             rows of marks, of which those below nx are looked at
--   EvenRows n nx c           the marks of all layers at the ranks below nx are zero
--   UnevenRow n c x           the mark of some layer at rank x is not
--   EvenTold, Found           what `even_at` and `search` find in the rows
use Rattle.std.specs.Prelude.{◌≡◌, Bool, true, false, List, [], ◌∷◌, ℕ, ◌+◌, ◌*◌, ◌<◌, ◌≤◌, length, get_or, Result, Ok, Err}
use Rattle.meaning.specs.Edges.{Edge, edge, number}
use Rattle.strips.specs.Rows.{row_at}
use Rattle.marks.specs.Marks.{from_at, to_at, Marked}
use Rattle.closure.specs.declared.Open.{Open}

-- ---- edges

unfoldable pub edges_by : List ℕ → List ℕ → List (Edge ℕ)
edges_by [] ends = []
edges_by (l ∷ ls) [] = []
edges_by (l ∷ ls) (f ∷ []) = []
edges_by (l ∷ ls) (f ∷ t ∷ ends) = edge l 0 f t ∷ edges_by ls ends

abbrev pub EvenAt : List (Edge ℕ) → ℕ → ℕ → Type 0
EvenAt es l x = number (from_at l x) es ≡ number (to_at l x) es

pub record LeastUneven (es : List (Edge ℕ)) (x : ℕ) : Type 0 where
  pub layer : ℕ
  pub eight : layer < 8
  pub uneven : EvenAt es layer x → ⊥
  pub before : (l y : ℕ) → l < 8 → y < x → EvenAt es l y

abbrev pub Answers : List (Edge ℕ) → Result (Unit {0}) Open → Type 0
Answers es (Ok _) = (l x : ℕ) → l < 8 → EvenAt es l x
Answers es (Err least) = LeastUneven es least.rank

pub record TestOk (layers ends : List ℕ) (n nx : ℕ) (c : List ℕ) : Type 0 where
  pub two : length ends ≡ length layers + length layers
  pub few : length ends ≤ 8192
  pub eight : (k : ℕ) → k < length layers → get_or layers k 0 < 8
  pub ranks : (p : ℕ) → p < length ends → get_or ends p 0 < nx
  pub within : nx ≤ n
  pub rows_few : n ≤ 8192
  pub long : length c ≡ 8 * n
  pub fresh : (p : ℕ) → p < length c → get_or c p 0 ≡ 8192

pub record Tested (n : ℕ) (layers ends c : List ℕ) (r : Result (Unit {0}) Open) : Type 0 where
  pub marked : Marked n (edges_by layers ends) c
  pub answer : Answers (edges_by layers ends) r

-- ---- rows of marks

abbrev pub EvenFrom : List ℕ → ℕ → ℕ → Type 0
EvenFrom c a b = (i : ℕ) → a ≤ i → i < b → get_or c i 0 ≡ 8192

pub record RowsOk (n nx : ℕ) (c : List ℕ) : Type 0 where
  pub long : length c ≡ 8 * n
  pub within : nx ≤ n
  pub rows_few : n ≤ 8192

abbrev pub EvenRows : ℕ → ℕ → List ℕ → Type 0
EvenRows n nx c = (l x : ℕ) → l < 8 → x < nx → row_at n c l x ≡ 8192

pub record UnevenRow (n : ℕ) (c : List ℕ) (x : ℕ) : Type 0 where
  pub layer : ℕ
  pub eight : layer < 8
  pub marked : row_at n c layer x ≡ 8192 → ⊥

abbrev pub EvenTold : ℕ → List ℕ → ℕ → Bool → Type 0
EvenTold n c x true = (l : ℕ) → l < 8 → row_at n c l x ≡ 8192
EvenTold n c x false = UnevenRow n c x

pub record FoundOpen (n nx : ℕ) (c : List ℕ) (x : ℕ) : Type 0 where
  pub low : x < nx
  pub row : UnevenRow n c x
  pub before : EvenRows n x c

abbrev pub Found : ℕ → ℕ → List ℕ → Result (Unit {0}) Open → Type 0
Found n nx c (Ok _) = EvenRows n nx c
Found n nx c (Err least) = FoundOpen n nx c least.rank
