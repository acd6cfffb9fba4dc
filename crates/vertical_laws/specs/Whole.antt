-- The horizontals of a result by ranks. The vertical records that they make are in proofs/Whole.antt. Assumes nothing.
--
--   Horizontals N g vx hr   hr are the horizontals of the result of g, by ranks in vx
--   on_lowered        a vertical by ranks, its x and then its coordinates put in: in one step or in two
use Rattle.std.specs.Prelude.{◌≡◌, refl, Bool, false, List, [], ◌∷◌, map, ℕ, ◌<◌, length, get_or}
use Rattle.std.proofs.Common.{ap}
use Rattle.meaning.specs.Numbers.{step}
use Rattle.meaning.specs.Records.{Record, rec}
use Rattle.basic_laws.specs.Lists.{All}
use Rattle.basic_laws.specs.Steps.{lowered}
use Rattle.grid_laws.specs.Plane.{level_n, kind_n}
use Rattle.grid_laws.specs.Places.{has, Rising}
use Rattle.grid_laws.specs.Beside.{Bounded}
use Rattle.horizontal.specs.Words.{on_level, Ranks}
use Rattle.vertical_laws.specs.Ranked.{on_upright}
use Rattle.vertical_laws.specs.Placing.{on_record}

pub on_lowered : (L : ℕ) (vx : List ℕ) (rs : List (Record ℕ)) → map (on_record (λ r. step L (get_or vx r 0)) (step L)) rs ≡ map (lowered L) (map (on_upright vx) rs)
on_lowered L vx [] = refl
on_lowered L vx (rec k r f t ∷ rs) = ap (◌∷◌ (rec k (step L (get_or vx r 0)) (step L f) (step L t))) (on_lowered L vx rs)

pub record Horizontals (N : ℕ) (g : ℕ → ℕ → Bool) (vx : List ℕ) (hr : List (Record ℕ)) : Type 0 where
  pub bounded : Bounded N g
  pub rising : Rising 0 vx
  pub last : (k : ℕ) → N < k → has k vx ≡ false
  pub ranks : All (Ranks (length vx)) hr
  pub are : map (on_level vx) hr ≡ kind_n 0 (level_n g) N
