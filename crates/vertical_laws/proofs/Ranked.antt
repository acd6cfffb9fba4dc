-- The vertical records over ranks, as the program has them: the place of x in the rising list vx of all x stands for x. Assumes nothing.
--
--   tips_on, pairs_on              the ends of records, and the records of ends, by ranks
--   ranked                         THE LAW: verticals by ranks are the verticals, by ranks
--   verticals_ranked               so from the horizontals by ranks come the vertical records of the result
use Rattle.std.specs.Prelude.{◌≡◌, refl, Bool, true, false, List, [], ◌∷◌, map, ℕ, suc, ◌≤◌, ◌<◌, length, get_or}
use Rattle.std.proofs.Common.{sym, ap, ◌∙◌, arith}
use Rattle.meaning.specs.Records.{Record, rec}
use Rattle.basic_laws.specs.Lists.{All}
use Rattle.grid_laws.specs.Plane.{level_n, upright_n, kind_n}
use Rattle.grid_laws.specs.Places.{has, Rising}
use Rattle.grid_laws.specs.Beside.{Bounded}
use Rattle.horizontal.specs.Words.{on_level, Ranks}
use Rattle.vertical_laws.specs.Tips.{Tip, tip, tips_of, pairs, by_x, verticals_n}
use Rattle.vertical_laws.proofs.PlaneTips.{verticals_are}
use Rattle.vertical_laws.specs.Ranked.{by_ranks, on_tip, on_upright, tips_ranks}

pub tips_on : (vx : List ℕ) (hr : List (Record ℕ)) → tips_of (map (on_level vx) hr) ≡ map (on_tip vx) (tips_of hr)
unfolding tips_of
tips_on vx [] = refl
tips_on vx (rec k y f t ∷ hr) = ap (λ ts. tip (get_or vx f 0) y false ∷ tip (get_or vx t 0) y true ∷ ts) (tips_on vx hr)

pub pairs_on : (vx : List ℕ) (ts : List (Tip ℕ)) → pairs (map (on_tip vx) ts) ≡ map (on_upright vx) (pairs ts)
unfolding pairs
pairs_on vx [] = refl
pairs_on vx (t ∷ []) = refl
pairs_on vx (tip x y true ∷ tip x' y' b ∷ ts) = ap (◌∷◌ (rec 1 (get_or vx x 0) y y')) (pairs_on vx ts)
pairs_on vx (tip x y false ∷ tip x' y' b ∷ ts) = ap (◌∷◌ (rec 1 (get_or vx x 0) y' y)) (pairs_on vx ts)

pub ranked : (n : ℕ) (vx : List ℕ) (hr : List (Record ℕ)) → Rising 0 vx → ((k : ℕ) → n ≤ k → has k vx ≡ false) → All (Ranks (length vx)) hr
    → verticals_n n (map (on_level vx) hr) ≡ map (on_upright vx) (verticals_n (length vx) hr)
unfolding verticals_n
ranked n vx hr s l a =
    ap (λ ts. pairs (by_x n ts)) (tips_on vx hr)
    ∙ ap pairs (by_ranks n vx (tips_of hr) s l (tips_ranks (length vx) hr a))
    ∙ pairs_on vx (by_x (length vx) (tips_of hr))

pub verticals_ranked : (N : ℕ) (g : ℕ → ℕ → Bool) → Bounded N g → (vx : List ℕ) (hr : List (Record ℕ))
    → Rising 0 vx → ((k : ℕ) → N < k → has k vx ≡ false) → All (Ranks (length vx)) hr → map (on_level vx) hr ≡ kind_n 0 (level_n g) N
    → map (on_upright vx) (verticals_n (length vx) hr) ≡ kind_n 1 (upright_n g) N
verticals_ranked N g b vx hr s l a e =
    sym (ranked (suc N) vx hr s (λ k p. l k (omega arith)) a) ∙ ap (verticals_n (suc N)) e ∙ verticals_are N g b
