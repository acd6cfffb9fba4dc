-- The result: unit pieces joined to records, in their order.
--
--   Run lo hi d            a stretch of one line in one direction, from its lesser to its greater end, in steps from the least coordinate
--   line f a n             the runs of the n unit pieces from a on, where piece k has direction f k
--   rec kind place from to a record; numbers_of: the numbers of a list of records
--   result L g             the records of the set of cells g, for the coordinate limit L, in the result's order
--   passes kind p k d r    record r has the unit piece k of the line at p, going in direction d (true: forward)
--   InOrder rs             rs stand in the result's order, apart, each as long as can be
--   put_in c rs             a result put in as layer c
--
-- `line` recurses over unit pieces and `result` over lines: they say what is meant and are never computed.
use Rattle.std.specs.Prelude.{◌≡◌, Bool, true, false, not, ◌&&◌, ◌||◌, List, [], ◌∷◌, ◌++◌, map, ℕ, zero, suc, ◌*◌, eqb, ltb, ℤ, pos}
use Rattle.std.specs.Int.Signed.{le_z, lt_z}
use Rattle.meaning.specs.Numbers.{pick, eq_z, step}
use Rattle.meaning.specs.Edges.{Edge, edge, number}
use Rattle.meaning.specs.Cells.{Dir, off, fwd, bwd, level, upright}

-- ---- one line

pub data Run : Type 0 where
  run : ℕ → ℕ → Dir → Run

abbrev pub same_dir : Dir → Dir → Bool
same_dir off off = true
same_dir off fwd = false
same_dir off bwd = false
same_dir fwd off = false
same_dir fwd fwd = true
same_dir fwd bwd = false
same_dir bwd off = false
same_dir bwd fwd = false
same_dir bwd bwd = true

abbrev pub join_if : Bool → ℕ → ℕ → Dir → ℕ → ℕ → Dir → List Run → List Run
join_if true a b d l h e rs = run a h d ∷ rs
join_if false a b d l h e rs = run a b d ∷ run l h e ∷ rs

-- "Neighbouring pieces on one line with one direction are joined; where the direction turns at a touching corner they stay two records."
-- The run from a to b in front of rs, joined to the first of rs if that starts at b in the same direction.
abbrev pub join : ℕ → ℕ → Dir → List Run → List Run
join a b d [] = run a b d ∷ []
join a b d (run l h e ∷ rs) = join_if (eqb l b && same_dir e d) a b d l h e rs

-- the stretch from a to b of direction d in front of rs
abbrev pub put : ℕ → ℕ → Dir → List Run → List Run
put a b off rs = rs
put a b fwd rs = join a b fwd rs
put a b bwd rs = join a b bwd rs

unfoldable pub line : (ℕ → Dir) → ℕ → ℕ → List Run
line f a zero = []
line f a (suc n) = put a (suc a) (f a) (line f (suc a) n)

-- ---- records

-- "A record is four numbers: kind, place, from, to. Kind 0 is horizontal at y = place, kind 1 vertical at x = place."
pub data Record (A : Type 0) : Type 0 where
  rec : ℕ → A → A → A → Record A

unfoldable pub numbers_of : List (Record ℤ) → List ℤ
numbers_of [] = []
numbers_of (rec kind p f t ∷ rs) = pos kind ∷ p ∷ f ∷ t ∷ numbers_of rs

-- the record of a run of the line at p
abbrev pub record_of : {A : Type 0} → (ℕ → A) → ℕ → A → Run → Record A
record_of at kind p (run lo hi off) = rec kind p (at lo) (at lo)
record_of at kind p (run lo hi fwd) = rec kind p (at lo) (at hi)
record_of at kind p (run lo hi bwd) = rec kind p (at hi) (at lo)

-- h at each of the n numbers from a on, one after the other
unfoldable pub each : {A : Type 0} → (ℕ → List A) → ℕ → ℕ → List A
each h a zero = []
each h a (suc n) = h a ++ each h (suc a) n

-- all records of one kind, "by place, then by the lesser end": F p k is the direction of piece k of the line at p
unfoldable pub kind_of : ℕ → ℕ → (ℤ → ℤ → Dir) → List (Record ℤ)
kind_of L kind F = each (λ p. map (record_of (step L) kind (step L p)) (line (λ k. F (step L p) (step L k)) 0 (2 * L))) 0 (suc (2 * L))

-- "All kind 0 come first, then kind 1 in the rest of the same buffer"
unfoldable pub result : ℕ → (ℤ → ℤ → Bool) → List (Record ℤ)
result L g = kind_of L 0 (level g) ++ kind_of L 1 (upright g)

-- ---- what a list of records lists, and when it stands in order

abbrev pub lesser : Record ℤ → ℤ
lesser (rec kind p f t) = pick (lt_z f t) f t

abbrev pub greater : Record ℤ → ℤ
greater (rec kind p f t) = pick (lt_z f t) t f

abbrev pub forward : Record ℤ → Bool
forward (rec kind p f t) = lt_z f t

abbrev pub same : Bool → Bool → Bool
same true b = b
same false b = not b

unfoldable pub passes : ℕ → ℤ → ℤ → Bool → Record ℤ → Bool
passes kind p k true (rec kd pl f t) = (eqb kd kind && eq_z pl p) && (le_z f k && lt_z k t)
passes kind p k false (rec kd pl f t) = (eqb kd kind && eq_z pl p) && (le_z t k && lt_z k f)

-- how many records of a list do
unfoldable pub passing : ℕ → ℤ → ℤ → Bool → List (Record ℤ) → ℕ
passing kind p k d rs = number (passes kind p k d) rs

-- on one line: r ends before s starts, or where s starts and the direction turns
abbrev pub apart : Record ℤ → Record ℤ → Bool
apart r s = lt_z (greater r) (lesser s) || (eq_z (greater r) (lesser s) && not (same (forward r) (forward s)))

-- "within a kind the order is by place, then by the lesser end"
unfoldable pub before : Record ℤ → Record ℤ → Bool
before (rec kd pl f t) (rec ke pm u v) =
    ltb kd ke || (eqb kd ke && (lt_z pl pm || (eq_z pl pm && apart (rec kd pl f t) (rec ke pm u v))))

-- r stands before the first of rs
abbrev pub Ahead : Record ℤ → List (Record ℤ) → Type 0
Ahead r [] = Unit {0}
Ahead r (s ∷ rs) = before r s ≡ true

-- each record has a length, and stands before its neighbour
abbrev pub InOrder : List (Record ℤ) → Type 0
InOrder [] = Unit {0}
InOrder (r ∷ rs) = (lt_z (lesser r) (greater r) ≡ true) × Ahead r rs × InOrder rs

-- ---- a result put in as a layer

-- "A result is put in as a layer by its kind 0 records alone: each becomes an edge with that layer's number in the place of the kind."
abbrev pub as_edge : ℕ → Record ℤ → List (Edge ℤ)
as_edge c (rec zero p f t) = edge (pos c) p f t ∷ []
as_edge c (rec (suc kind) p f t) = []

unfoldable pub put_in : ℕ → List (Record ℤ) → List (Edge ℤ)
put_in c [] = []
put_in c (r ∷ rs) = as_edge c r ++ put_in c rs
