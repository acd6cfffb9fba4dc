-- The plane in steps: coordinates are counted from the least one, which is 0, up to N. The definitions of `meaning` once more over natural
-- numbers, where omega decides; the crate `laws` carries what is shown of them back. A name that ends in N is the step view of that name.
--
--   goes_west c i, goes_east c i   an edge of layer c that goes west (east) and spans column i
--   covers_n es i j c             layer c covers cell (i, j), by the one coverage rule
--   inside_n holds es i j         cell (i, j) is inside
--   prior g j                    g one place earlier; there is no cell before place 0
--   level_n, upright_n             the unit pieces
--   kind_n, result_n               the records of one kind, and of both, over all lines
--   line_at, line_over, each_of     a line, and lines, looked at only at break points and places
--   kind_at, result_at             the records so found
--   xs_of, ys_of, sorted           the places of a list of edges, and a list of numbers sorted without doubles
use Rattle.std.specs.Prelude.{◌≡◌, Bool, true, false, ◌&&◌, List, [], ◌∷◌, ◌++◌, map, ℕ, zero, suc, leb, ltb, eqb, pos, ◌-ℤ◌}
use Rattle.meaning.specs.Edges.{Edge, edge, number, covers}
use Rattle.meaning.specs.Cells.{Dir, turn}
use Rattle.meaning.specs.Records.{Run, put, line, Record, record_of, each}
use Rattle.basic_laws.specs.Tests.{spans}

-- ---- edges and cells

unfoldable pub goes_west : ℕ → ℕ → Edge ℕ → Bool
goes_west c i (edge l y f t) = eqb l c && spans t f i

unfoldable pub goes_east : ℕ → ℕ → Edge ℕ → Bool
goes_east c i (edge l y f t) = eqb l c && spans f t i

unfoldable pub up_to_n : ℕ → Edge ℕ → Bool
up_to_n j (edge l y f t) = leb y j

unfoldable pub wests_n : List (Edge ℕ) → ℕ → ℕ → ℕ → ℕ
wests_n es c i j = number (λ e. goes_west c i e && up_to_n j e) es

unfoldable pub easts_n : List (Edge ℕ) → ℕ → ℕ → ℕ → ℕ
easts_n es c i j = number (λ e. goes_east c i e && up_to_n j e) es

unfoldable pub covers_n : List (Edge ℕ) → ℕ → ℕ → ℕ → Bool
covers_n es i j c = covers (pos (wests_n es c i j) -ℤ pos (easts_n es c i j))

unfoldable pub inside_n : ((ℕ → Bool) → Bool) → List (Edge ℕ) → ℕ → ℕ → Bool
inside_n holds es i j = holds (covers_n es i j)

unfoldable pub ClosedN : List (Edge ℕ) → Type 0
ClosedN es = (c i : ℕ) → number (goes_west c i) es ≡ number (goes_east c i) es

-- ---- the result of a set of cells g

abbrev pub prior : (ℕ → Bool) → ℕ → Bool
prior g zero = false
prior g (suc j) = g j

unfoldable pub level_n : (ℕ → ℕ → Bool) → ℕ → ℕ → Dir
level_n g y i = turn (prior (g i) y) (g i y)

unfoldable pub upright_n : (ℕ → ℕ → Bool) → ℕ → ℕ → Dir
upright_n g x j = turn (g x j) (prior (λ i. g i j) x)

abbrev pub record_at : ℕ → ℕ → Run → Record ℕ
record_at kind p r = record_of (λ n. n) kind p r

unfoldable pub kind_n : ℕ → (ℕ → ℕ → Dir) → ℕ → List (Record ℕ)
kind_n kind F N = each (λ p. map (record_at kind p) (line (F p) 0 N)) 0 (suc N)

unfoldable pub result_n : ℕ → (ℕ → ℕ → Bool) → List (Record ℕ)
result_n N g = kind_n 0 (level_n g) N ++ kind_n 1 (upright_n g) N

-- ---- only at break points and places

-- a line of which f is looked at only at the break points a, b₁, b₂, ..
unfoldable pub line_at : (ℕ → Dir) → ℕ → List ℕ → List Run
line_at f a [] = []
line_at f a (b ∷ bs) = put a b (f a) (line_at f b bs)

unfoldable pub line_over : (ℕ → Dir) → List ℕ → List Run
line_over f [] = []
line_over f (b ∷ bs) = line_at f b bs

unfoldable pub each_of : {A : Type 0} → (ℕ → List A) → List ℕ → List A
each_of h [] = []
each_of h (p ∷ ps) = h p ++ each_of h ps

unfoldable pub kind_at : ℕ → (ℕ → ℕ → Dir) → List ℕ → List ℕ → List (Record ℕ)
kind_at kind F ps bs = each_of (λ p. map (record_at kind p) (line_over (F p) bs)) ps

unfoldable pub result_at : (ℕ → ℕ → Bool) → List ℕ → List ℕ → List (Record ℕ)
result_at g xs ys = kind_at 0 (level_n g) ys xs ++ kind_at 1 (upright_n g) xs ys

-- ---- the places of a list of edges

unfoldable pub ys_of : List (Edge ℕ) → List ℕ
ys_of [] = []
ys_of (edge l y f t ∷ es) = y ∷ ys_of es

unfoldable pub xs_of : List (Edge ℕ) → List ℕ
xs_of [] = []
xs_of (edge l y f t ∷ es) = f ∷ t ∷ xs_of es

-- k put into a rising list, once
unfoldable pub insert_if : Bool → Bool → ℕ → ℕ → List ℕ → List ℕ → List ℕ
insert_if true eq k p ps r = k ∷ p ∷ ps
insert_if false true k p ps r = p ∷ ps
insert_if false false k p ps r = p ∷ r

unfoldable pub insert : ℕ → List ℕ → List ℕ
insert k [] = k ∷ []
insert k (p ∷ ps) = insert_if (ltb k p) (eqb k p) k p ps (insert k ps)

unfoldable pub sorted : List ℕ → List ℕ
sorted [] = []
sorted (k ∷ ks) = insert k (sorted ks)
