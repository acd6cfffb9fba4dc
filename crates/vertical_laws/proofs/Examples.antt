-- Small cases, by computing. Coordinates are in steps.
use Rattle.std.specs.Prelude.{◌≡◌, refl, [], ◌∷◌, pos, negsuc}
use Rattle.meaning.specs.Numbers.{step, eq_z}
use Rattle.meaning.specs.Records.{rec, each}
use Rattle.vertical_laws.specs.Tips.{tips_of, only, pairs, by_x, verticals_n, by_column, verticals}

-- one cell
one : verticals_n 2 (rec 0 0 1 0 ∷ rec 0 1 0 1 ∷ []) ≡ rec 1 0 0 1 ∷ rec 1 1 1 0 ∷ []
unfolding verticals_n by_x each only tips_of pairs
one = refl

-- two cells that touch at (1, 1): two ends there, both of the same sort
touching : verticals_n 3 (rec 0 0 1 0 ∷ rec 0 1 0 1 ∷ rec 0 1 2 1 ∷ rec 0 2 1 2 ∷ []) ≡ rec 1 0 0 1 ∷ rec 1 1 1 0 ∷ rec 1 1 1 2 ∷ rec 1 2 2 1 ∷ []
unfolding verticals_n by_x each only tips_of pairs
touching = refl

-- the other two: both horizontals start there
touching_other : verticals_n 3 (rec 0 0 2 1 ∷ rec 0 1 1 0 ∷ rec 0 1 1 2 ∷ rec 0 2 0 1 ∷ []) ≡ rec 1 0 1 2 ∷ rec 1 1 0 1 ∷ rec 1 1 2 1 ∷ rec 1 2 1 0 ∷ []
unfolding verticals_n by_x each only tips_of pairs
touching_other = refl

-- a ring of eight cells round a hole
hole : verticals_n 4 (rec 0 0 3 0 ∷ rec 0 1 1 2 ∷ rec 0 2 2 1 ∷ rec 0 3 0 3 ∷ []) ≡ rec 1 0 0 3 ∷ rec 1 1 2 1 ∷ rec 1 2 1 2 ∷ rec 1 3 3 0 ∷ []
unfolding verticals_n by_x each only tips_of pairs
hole = refl

-- one cell, in coordinates of the limit 1
cell : verticals 1 (rec 0 (negsuc 0) (pos 0) (negsuc 0) ∷ rec 0 (pos 0) (negsuc 0) (pos 0) ∷ []) ≡ rec 1 (negsuc 0) (negsuc 0) (pos 0) ∷ rec 1 (pos 0) (pos 0) (negsuc 0) ∷ []
unfolding verticals by_column each only tips_of pairs step eq_z
cell = refl
