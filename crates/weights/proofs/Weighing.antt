-- One record's weight. Assumes nothing.
use Rattle.std.proofs.Common.{◌≡◌, ℕ, ◌+◌, ◌-◌, ◌*◌, ◌%◌, ◌^◌, ◌≤◌, Bool, true, false, not, [], ◌∷◌, arith}
use Rattle.meaning.specs.Cells.{turn}
use Rattle.meaning.specs.Records.{run}
use Rattle.grid_laws.specs.Plane.{record_at}
use Rattle.basic_laws.specs.Sums.{sum_of}
use Rattle.grid_laws.specs.Wrap.{owes_add, owes_sub}
use Rattle.grid_laws.specs.AreaLaws.{times_none}
use Rattle.weights.specs.Weights.{Weighed}

-- a stretch that came inside goes west
pub weigh_west : (sum y a b w r : ℕ) (inside : Bool) → inside ≡ true → a ≤ b → w ≡ y * (b - a) → (r + w) % 2 ^ 64 ≡ sum → Weighed sum (record_at 0 y (run a b (turn (not inside) inside)) ∷ []) r
unfolding sum_of
weigh_west sum y a b w r true t h e q = record {
  owes = λ P M o.
      let p : P + (y * (a - b) + 0) ≡ P = omega (arith, times_none y (a - b) (omega arith)) in
      let m : M + (y * (b - a) + 0) ≡ M + w = omega arith in
      rw (p, m) (owes_sub sum w P M r o q);
}
weigh_west sum y a b w r false t h e q = absurd (let z : ◌≡◌ {A = ℕ} 0 1 = cc in omega arith)

pub weigh_east : (sum y a b w r : ℕ) (inside : Bool) → inside ≡ false → a ≤ b → w ≡ y * (b - a) → r ≡ (sum + w) % 2 ^ 64 → Weighed sum (record_at 0 y (run a b (turn (not inside) inside)) ∷ []) r
unfolding sum_of
weigh_east sum y a b w r false t h e q = record {
  owes = λ P M o.
      let p : P + (y * (b - a) + 0) ≡ P + w = omega arith in
      let m : M + (y * (a - b) + 0) ≡ M = omega (arith, times_none y (a - b) (omega arith)) in
      rw (p, m) (owes_add sum w P M r o q);
}
weigh_east sum y a b w r true t h e q = absurd (let z : ◌≡◌ {A = ℕ} 0 1 = cc in omega arith)
