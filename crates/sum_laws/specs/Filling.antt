-- Loops that write f of each member of one list to another. Assumes nothing.
--
--   fresh_part          the length of a part of a fresh array
use Rattle.std.specs.Prelude.{◌≡◌, ℕ, ◌-◌, ◌≤◌, length, take, replicate}
use Rattle.std.proofs.Common.{◌∙◌, arith, length-take-le}
use Rattle.std.proofs.lemmas.List.{length-replicate}

pub fresh_part : (k n : ℕ) → k ≤ n → length {A = ℕ} (take (k - 0) (replicate n 0)) ≡ k
fresh_part k n h = length-take-le (k - 0) (replicate {A = ℕ} n 0) (rw length-replicate (omega arith)) ∙ omega arith
