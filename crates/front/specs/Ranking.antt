-- What ranking an edge list is asked, and what it finds.
--
--   RankOk                 an edge list in range, columns as long as it has edges and ends, and rows of n fresh counts
--   InRanks ns .. nx       the columns have the edges in steps, and nx distinct x, ranked
--   BalancedAs, UnbalancedAs   the list is closed, or not; then the x of the rank is the least column that is not balanced
--   Ranking                what the answer says
use Rattle.std.specs.Prelude.{◌≡◌, List, map, ℕ, ◌+◌, ◌*◌, ◌/◌, ◌<◌, ◌≤◌, ℤ, length, get_or, Result, Ok, Err}
use Rattle.meaning.specs.Numbers.{limit}
use Rattle.meaning.specs.Edges.{edges_of, Closed}
use Rattle.basic_laws.specs.Sound.{SoundList, lifted}
use Rattle.axis.specs.Axes.{Ranks}
use Rattle.lifting.specs.InSteps.{InSteps}
use Rattle.marks.specs.Marks.{Marked}
use Rattle.closure.specs.Testing.{edges_by}
use Rattle.closure.specs.Balance.{OpenAt}
use Rattle.closure.specs.declared.Open.{Open}

pub record RankOk (ns : List ℤ) (layers ys xs ends vx ws room : List ℕ) (n : ℕ) (c : List ℕ) : Type 0 where
  pub sound : SoundList 7 limit ns
  pub as_layers : length layers ≡ length ns / 4
  pub as_ys : length ys ≡ length ns / 4
  pub as_xs : length xs ≡ length ns / 4 + length ns / 4
  pub as_ends : length ends ≡ length ns / 4 + length ns / 4
  pub as_values : length vx ≡ length ns / 4 + length ns / 4
  pub as_words : length ws ≡ length ns / 4 + length ns / 4
  pub as_room : length room ≡ length ns / 4 + length ns / 4
  pub strips : length ns / 4 + length ns / 4 ≤ n
  pub rows_few : n ≤ 8192
  pub long : length c ≡ 8 * n
  pub fresh : (p : ℕ) → p < length c → get_or c p 0 ≡ 8192

pub record InRanks (ns : List ℤ) (layers ys xs ends vx : List ℕ) (n nx : ℕ) : Type 0 where
  pub steps : InSteps (map (lifted limit) (edges_of ns)) layers ys xs
  pub ranked : Ranks xs vx ends nx
  pub within : nx ≤ n

pub record BalancedAs (ns : List ℤ) (layers ys xs ends vx : List ℕ) (n nx : ℕ) (c₀ c : List ℕ) : Type 0 where
  pub ranks : InRanks ns layers ys xs ends vx n nx
  pub closed : Closed (edges_of ns)
  pub still : c ≡ c₀

pub record UnbalancedAs (ns : List ℤ) (layers ys xs ends vx : List ℕ) (n x : ℕ) (c : List ℕ) : Type 0 where
  pub nx : ℕ
  pub ranks : InRanks ns layers ys xs ends vx n nx
  pub not_closed : Closed (edges_of ns) → ⊥
  pub least : OpenAt (map (lifted limit) (edges_of ns)) (get_or vx x 0)
  pub low : x < nx
  -- the marks of all edges
  pub marked : Marked n (edges_by layers ends) c

unfoldable pub Ranking : List ℤ → List ℕ → List ℕ → List ℕ → List ℕ → List ℕ → ℕ → List ℕ → List ℕ → Result ℕ Open → Type 0
Ranking ns layers ys xs ends vx n c₀ c (Ok nx) = BalancedAs ns layers ys xs ends vx n nx c₀ c
Ranking ns layers ys xs ends vx n c₀ c (Err least) = UnbalancedAs ns layers ys xs ends vx n least.rank c
