-- What lifting, ranking and testing an edge list say together. Assumes nothing.
--
--   in_ranks      the columns and the ranks
--   rank_test     the edges by ranks can be tested
--   balanced, unbalanced   what the answers of the test say of the list
--   balanced_says, unbalanced_says   what each answer says
use Rattle.std.specs.Prelude.{◌≡◌, List, map, ℕ, ◌≤◌, ℤ, length, Result, Ok, Err}
use Rattle.std.proofs.Common.{subst, arith}
use Rattle.meaning.specs.Numbers.{limit}
use Rattle.meaning.specs.Edges.{Edge, edges_of}
use Rattle.basic_laws.specs.Sound.{lifted}
use Rattle.axis.specs.Axes.{Axis, Ranks}
use Rattle.lifting.specs.InSteps.{InSteps}
use Rattle.closure.specs.declared.Open.{Open}
use Rattle.closure.specs.Testing.{TestOk, Tested}
use Rattle.closure.specs.Closing.{test_ready, list_closed, list_least, list_open, open_low}
use Rattle.closure.specs.OnlyOne.{marked_even}
use Rattle.front.specs.Ranking.{RankOk, InRanks, BalancedAs, UnbalancedAs, Ranking}

module _ {ns : List ℤ} {layers₀ ys₀ xs₀ ends₀ vx₀ ws₀ room₀ : List ℕ} {n : ℕ} {c₀ : List ℕ} (K : RankOk ns layers₀ ys₀ xs₀ ends₀ vx₀ ws₀ room₀ n c₀)
    {layers ys xs ends vx ws : List ℕ} {nx : ℕ} (I : InSteps (map (lifted limit) (edges_of ns)) layers ys xs) (A : Axis xs ws vx ends nx)
    (xs_long : length xs ≡ length xs₀) (ends_long : length ends ≡ length ends₀) (vx-long : length vx ≡ length vx₀) where
  abbrev steps : List (Edge ℕ)
  steps = map (lifted limit) (edges_of ns)

  long_ends : length ends ≡ length xs
  long_ends = omega (arith, K.as_ends, K.as_xs)

  within : nx ≤ n
  within = omega (arith, A.ranked.within, K.as_values, K.strips)

  pub in_ranks : InRanks ns layers ys xs ends vx n nx
  in_ranks = record { steps = I; ranked = A.ranked; within = within }

  pub rank_test : TestOk layers ends n nx c₀
  rank_test = test_ready ns K.sound layers ys xs vx ends nx I A.ranked long_ends n c₀ within K.rows_few K.long K.fresh

  module _ {c : List ℕ} (r : Result (Unit {0}) Open) (T : Tested n layers ends c r) where
    pub balanced : r ≡ Ok tt → Ranking ns layers ys xs ends vx n c₀ c (Ok nx)
    unfolding Ranking
    balanced e =
        let t : Tested n layers ends c (Ok tt) = rw e at T in
        record { ranks = in_ranks; closed = list_closed ns K.sound layers ys xs vx ends nx I A.ranked long_ends t.answer; still = marked_even rank_test t }

    pub unbalanced : (x : ℕ) → r ≡ Err (record { rank = x }) → Ranking ns layers ys xs ends vx n c₀ c (Err (record { rank = x }))
    unfolding Ranking
    unbalanced x e =
        let t : Tested n layers ends c (Err (record { rank = x })) = rw e at T in
        record {
          nx = nx;
          ranks = in_ranks;
          not_closed = list_open ns K.sound layers ys xs vx ends nx I A.ranked long_ends x t.answer;
          least = list_least ns K.sound layers ys xs vx ends nx I A.ranked long_ends x t.answer;
          low = open_low steps layers ends vx nx I.layers_are rank_test.two (subst (λ l. Ranks l vx ends nx) I.xs_are A.ranked) rank_test.eight rank_test.ranks x t.answer;
          marked = t.marked;
        }

-- ---- what the answers say

module _ {ns : List ℤ} {layers ys xs ends vx : List ℕ} {n : ℕ} {c : List ℕ} {r : Result ℕ Open} (c₀ : List ℕ) (R : Ranking ns layers ys xs ends vx n c₀ c r) where
  pub balanced_says : {nx : ℕ} → r ≡ Ok nx → BalancedAs ns layers ys xs ends vx n nx c₀ c
  unfolding Ranking
  balanced_says e = rw e at R

  pub unbalanced_says : {x : ℕ} → r ≡ Err (record { rank = x }) → UnbalancedAs ns layers ys xs ends vx n x c
  unfolding Ranking
  unbalanced_says e = rw e at R
