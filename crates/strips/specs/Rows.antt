-- Rows of counts: for each of eight layers n counts, layer after layer, each raised by 8,192. Assumes nothing.
--
--   row_at n c l r   the count of layer l in strip r
--   layer_fits      the rows of a layer stand among those of all eight
use Rattle.std.specs.Prelude.{List, ℕ, ◌+◌, ◌*◌, ◌<◌, ◌≤◌, get_or}
use Rattle.std.proofs.Common.{arith, mul-le-mul_right}

abbrev pub row_at : ℕ → List ℕ → ℕ → ℕ → ℕ
row_at n c l r = get_or c (l * n + r) 0

pub layer_fits : (n l : ℕ) → l < 8 → l * n + n ≤ 8 * n
layer_fits n l h = let m : (l + 1) * n ≤ 8 * n = mul-le-mul_right n (omega arith) in omega arith
