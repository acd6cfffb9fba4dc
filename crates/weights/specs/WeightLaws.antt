-- Laws of weighing. Assumes nothing.
--
--   weigh_none, weigh_more    no record, and records one after the other
--   weigh_one                 sums of the same are equal
use Rattle.std.specs.Prelude.{◌≡◌, ℕ, ◌+◌, ◌^◌, ◌<◌, List, [], ◌++◌, refl}
use Rattle.std.proofs.Common.{arith, add-zero}
use Rattle.meaning.specs.Records.{Record}
use Rattle.basic_laws.specs.Sums.{sum_of, sum_append}
use Rattle.grid_laws.specs.AreaLaws.{plus, minus}
use Rattle.grid_laws.specs.Wrap.{Owes}
use Rattle.weights.specs.Weights.{Weighed}

pub weigh_none : (a : ℕ) → Weighed a [] a
unfolding sum_of
weigh_none a = record { owes = λ P M o. rw (add-zero P, add-zero M) o }

pub weigh_more : {a b c : ℕ} (rs ss : List (Record ℕ)) → Weighed a rs b → Weighed b ss c → Weighed a (rs ++ ss) c
weigh_more rs ss p q = record {
  owes = λ P M o.
      let e : P + sum_of plus (rs ++ ss) ≡ P + sum_of plus rs + sum_of plus ss = omega (arith, sum_append plus rs ss) in
      let f : M + sum_of minus (rs ++ ss) ≡ M + sum_of minus rs + sum_of minus ss = omega (arith, sum_append minus rs ss) in
      rw (e, f) (q.owes _ _ (p.owes P M o));
}

same_sum : (b c M P : ℕ) → b < 2 ^ 64 → c < 2 ^ 64 → Owes b P M → Owes c P M → b ≡ c
same_sum b c M P h g p q = omega arith

pub weigh_one : (a b c : ℕ) (rs : List (Record ℕ)) → b < 2 ^ 64 → c < 2 ^ 64 → Weighed a rs b → Weighed a rs c → b ≡ c
weigh_one a b c rs h g p q = same_sum b c (0 + sum_of minus rs) (a + sum_of plus rs) h g (p.owes a 0 (rw (add-zero a) refl)) (q.owes a 0 (rw (add-zero a) refl))
