-- A sum of weights that wraps: y times (to - from), of records one after the other.
--
--   Weighed before rs after   after is before, with the weights of rs, modulo 2^64
--   WeightOk y a b            a stretch from a to b at y, in range
use Rattle.std.specs.Prelude.{ℕ, ◌+◌, ◌≤◌, List}
use Rattle.meaning.specs.Records.{Record}
use Rattle.basic_laws.specs.Sums.{sum_of}
use Rattle.grid_laws.specs.AreaLaws.{plus, minus}
use Rattle.grid_laws.specs.Wrap.{Owes}

-- whatever before is the difference of, after is that of, with the weights
pub record Weighed (before : ℕ) (rs : List (Record ℕ)) (after : ℕ) : Type 0 where
  pub owes : (P M : ℕ) → Owes before P M → Owes after (P + sum_of plus rs) (M + sum_of minus rs)

pub record WeightOk (y a b : ℕ) : Type 0 where
  pub place : y ≤ 2147483648
  pub order : a ≤ b
  pub top : b ≤ 2147483648
