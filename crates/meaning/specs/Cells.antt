-- Which cells are inside, and which unit pieces of edge lie between an inside cell and another.
--
--   handed es i j         what is handed to the evaluator at cell (i, j): which layers cover it
--   inside holds es i j   cell (i, j) is inside: `holds`, the expression, is true of the layers covering it
--   Dir                   off: no piece; fwd: towards greater coordinates; bwd: towards lesser ones
--   turn right left       the direction of a unit piece, from what lies on the right and on the left of going forward
--   goes d e              1 where e is the direction d (true: forward), else 0
--   level g y i           the piece of the horizontal at y over column i, for the set of cells g
--   upright g x j         the piece of the vertical at x beside row j
--   Within L g            no cell of g lies outside the coordinate range
use Rattle.std.specs.Prelude.{◌≡◌, Bool, true, false, List, ℕ, ℤ, pos, neg_ℤ}
use Rattle.std.proofs.Math.IntN.{pred_ℤ}
use Rattle.std.specs.Int.Signed.{le_z, lt_z}
use Rattle.meaning.specs.Edges.{Edge, count, covers}
use Rattle.meaning.specs.Expression.{Handed}

-- what covers cell (i, j), as the evaluator of an expression takes it
abbrev pub handed : List (Edge ℤ) → ℤ → ℤ → Handed
handed es i j c = covers (count es c i j)

-- "Cell (i, j) is the square from (i, j) to (i+1, j+1)."
-- "A unit cell is inside the result exactly when the expression holds of the layers covering it"
unfoldable pub inside : (Handed → Bool) → List (Edge ℤ) → ℤ → ℤ → Bool
inside holds es i j = holds (handed es i j)

pub data Dir : Type 0 where
  off fwd bwd : Dir

-- "A unit piece belongs to a record exactly when one of its two side cells is inside and the other isn't; the direction keeps inside on the right"
abbrev pub turn : Bool → Bool → Dir
turn true true = off
turn true false = fwd
turn false true = bwd
turn false false = off

abbrev pub goes : Bool → Dir → ℕ
goes true off = 0
goes true fwd = 1
goes true bwd = 0
goes false off = 0
goes false fwd = 0
goes false bwd = 1

-- going east, the cell below is on the right
unfoldable pub level : (ℤ → ℤ → Bool) → ℤ → ℤ → Dir
level g y i = turn (g i (pred_ℤ y)) (g i y)

-- "north has it to the east, south to the west"
unfoldable pub upright : (ℤ → ℤ → Bool) → ℤ → ℤ → Dir
upright g x j = turn (g x j) (g (pred_ℤ x) j)

-- a cell lies in the range where both its sides do
pub record Within (L : ℕ) (g : ℤ → ℤ → Bool) : Type 0 where
  pub left : (i j : ℤ) → lt_z i (neg_ℤ (pos L)) ≡ true → g i j ≡ false
  pub right : (i j : ℤ) → le_z (pos L) i ≡ true → g i j ≡ false
  pub below : (i j : ℤ) → lt_z j (neg_ℤ (pos L)) ≡ true → g i j ≡ false
  pub above : (i j : ℤ) → le_z (pos L) j ≡ true → g i j ≡ false
