-- The area by a wrapping sum: adding and taking away modulo 2^64, in any order of records, ends at the number of cells.
use Rattle.std.specs.Prelude.{◌≡◌, Bool, false, ℕ, zero, suc, ◌+◌, ◌*◌, ◌%◌, ◌^◌, ◌≤◌, ◌<◌}
use Rattle.std.proofs.Common.{sym, ap, ◌∙◌, arith, mul-le-mul}
use Rattle.std.proofs.Math.Nat.{mod-add-mod}
use Rattle.meaning.specs.Numbers.{bit}
use Rattle.meaning.specs.Area.{total}
use Rattle.grid_laws.specs.Plane.{level_n, kind_n}
use Rattle.basic_laws.specs.Sums.{sum_of}
use Rattle.basic_laws.specs.Tests.{bit_le}
use Rattle.grid_laws.specs.AreaLaws.{plus, minus, cells_n, area}

-- acc is P less M, modulo 2^64
abbrev pub Owes : ℕ → ℕ → ℕ → Type 0
Owes acc P M = (acc + M) % 2 ^ 64 ≡ P % 2 ^ 64

-- after `wrapping_add_u64(acc, p)`
pub owes_add : (acc p P M r : ℕ) → Owes acc P M → r ≡ (acc + p) % 2 ^ 64 → Owes r (P + p) M
owes_add acc p P M r e q =
    let s : acc + p + M ≡ acc + M + p = omega arith in
    rw q (mod-add-mod (acc + p) (2 ^ 64) M ∙ ap (λ (z : ℕ). z % 2 ^ 64) s ∙ sym (mod-add-mod (acc + M) (2 ^ 64) p) ∙ ap (λ (z : ℕ). (z + p) % 2 ^ 64) e ∙ mod-add-mod P (2 ^ 64) p)

-- after `wrapping_sub_u64(acc, m)`
pub owes_sub : (acc m P M r : ℕ) → Owes acc P M → (r + m) % 2 ^ 64 ≡ acc → Owes r P (M + m)
owes_sub acc m P M r e q =
    let s : r + (M + m) ≡ r + m + M = omega arith in
    ap (λ (z : ℕ). z % 2 ^ 64) s ∙ sym (mod-add-mod (r + m) (2 ^ 64) M) ∙ ap (λ (z : ℕ). (z + M) % 2 ^ 64) q ∙ e

-- at the end
owes_end : (acc M c : ℕ) → Owes acc (M + c) M → acc < 2 ^ 64 → c < 2 ^ 64 → acc ≡ c
owes_end acc M c e l k = omega arith

-- ---- there are at most N * N cells

total_le : (f : ℕ → ℕ) (b a n : ℕ) → ((k : ℕ) → f k ≤ b) → total f a n ≤ n * b
unfolding total
total_le f b a zero h = omega arith
total_le f b a (suc n) h = omega (arith, h a, total_le f b (suc a) n h)

pub cells_le : (N : ℕ) (g : ℕ → ℕ → Bool) → cells_n N g ≤ N * N
unfolding cells_n
cells_le N g = total_le (λ i. total (λ j. bit (g i j)) 0 N) N 0 N (λ i. omega (arith, total_le (λ j. bit (g i j)) 1 0 N (λ j. bit_le (g i j))))

pub area_wraps : (N : ℕ) (g : ℕ → ℕ → Bool) → N ≤ 2 ^ 31 → ((i : ℕ) → g i N ≡ false) → (acc : ℕ) → acc < 2 ^ 64
    → Owes acc (sum_of plus (kind_n 0 (level_n g) N)) (sum_of minus (kind_n 0 (level_n g) N)) → acc ≡ cells_n N g
area_wraps N g l top acc b e =
    let c : cells_n N g ≤ 2 ^ 62 = omega (arith, cells_le N g, mul-le-mul l l) in
    owes_end acc (sum_of minus (kind_n 0 (level_n g) N)) (cells_n N g) (e ∙ ap (λ (z : ℕ). z % 2 ^ 64) (area N g top)) b (omega arith)
