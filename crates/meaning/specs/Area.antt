-- The area.
--
--   total f a n     the sum of f over the n numbers from a on
--   cells L g       the number of cells of g in the coordinate range
--   signed_sum rs    the sum of y times (to - from) over the kind 0 records of rs
use Rattle.std.specs.Prelude.{Bool, List, [], ◌∷◌, ℕ, zero, suc, ◌+◌, ◌*◌, ℤ, pos, ◌+ℤ◌, ◌-ℤ◌, ◌*ℤ◌}
use Rattle.meaning.specs.Numbers.{bit, step}
use Rattle.meaning.specs.Records.{Record, rec}

unfoldable pub total : (ℕ → ℕ) → ℕ → ℕ → ℕ
total f a zero = 0
total f a (suc n) = f a + total f (suc a) n

-- "Area is the number of inside cells."
unfoldable pub cells : ℕ → (ℤ → ℤ → Bool) → ℕ
cells L g = total (λ i. total (λ j. bit (g (step L i) (step L j))) 0 (2 * L)) 0 (2 * L)

-- "It equals the sum of y times (to - from) over the kind 0 records."
abbrev pub signed_term : Record ℤ → ℤ
signed_term (rec zero y f t) = y *ℤ (t -ℤ f)
signed_term (rec (suc kind) x f t) = pos 0

unfoldable pub signed_sum : List (Record ℤ) → ℤ
signed_sum [] = pos 0
signed_sum (r ∷ rs) = signed_term r +ℤ signed_sum rs
