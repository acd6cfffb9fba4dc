-- The ends of the runs of a line, point by point. Their law is in proofs/LineTips.antt. Assumes nothing.
--
--   cut d e          the ends at a point between pieces of directions d and e: true for a `from`, false for a `to`, the earlier run's first
--   prev f k         the direction of the piece before place k
--   flat mk rs       the ends of the runs rs in order, the lesser end of each first, made by mk of a place and `from` or not
use Rattle.std.specs.Prelude.{◌≡◌, Bool}
use Rattle.std.proofs.Math.Path.{refl, ap}
use Rattle.std.proofs.Math.Bool.{true, false}
use mathlib.Core.List.{List, [], ◌∷◌, ◌++◌, map}
use Prim.Native.Nat.{ℕ, zero, suc}
use Rattle.meaning.specs.Cells.{Dir, off, fwd, bwd}
use Rattle.meaning.specs.Records.{Run, run, each}

abbrev pub opens : Dir → List Bool
opens off = []
opens fwd = true ∷ []
opens bwd = false ∷ []

abbrev pub closes : Dir → List Bool
closes off = []
closes fwd = false ∷ []
closes bwd = true ∷ []

abbrev pub cut : Dir → Dir → List Bool
cut off off = []
cut off fwd = true ∷ []
cut off bwd = false ∷ []
cut fwd off = false ∷ []
cut fwd fwd = []
cut fwd bwd = false ∷ false ∷ []
cut bwd off = true ∷ []
cut bwd fwd = true ∷ true ∷ []
cut bwd bwd = []

-- the piece before; there is none before place 0
abbrev pub prev : (ℕ → Dir) → ℕ → Dir
prev f zero = off
prev f (suc k) = f k

unfoldable pub flat : {A : Type 0} → (ℕ → Bool → A) → List Run → List A
flat mk [] = []
flat mk (run l h d ∷ rs) = map (mk l) (opens d) ++ (map (mk h) (closes d) ++ flat mk rs)

pub each_shift : {A : Type 0} (h : ℕ → List A) (a n : ℕ) → each h (suc a) n ≡ each (λ k. h (suc k)) a n
unfolding each
each_shift h a zero = refl
each_shift h a (suc n) = ap (◌++◌ (h (suc a))) (each_shift h (suc a) n)
