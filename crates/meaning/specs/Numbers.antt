-- Whole numbers: tests on signed numbers, the coordinate range, and steps through it.
--
--   bit b          a truth value as a number: 1 or 0
--   pick b x y     x where b holds, else y
--   eq_z a b        the numbers a and b are equal
--   limit          the coordinate limit, 2^30
--   in_range L z   z is from -L to L
--   zero_to n z     z is from 0 to n
--   step L n       the number that lies n steps above -L
--
-- The limit stands behind one name, and every law is over any limit L.
use Rattle.std.specs.Prelude.{Bool, true, false, ℕ, ◌^◌, leb, eqb, ℤ, pos, negsuc, nat_abs, ◌-ℤ◌}

abbrev pub bit : Bool → ℕ
bit true = 1
bit false = 0

abbrev pub pick {ℓ} : {A : Type ℓ} → Bool → A → A → A
pick true x y = x
pick false x y = y

unfoldable pub eq_z : ℤ → ℤ → Bool
eq_z (pos a) (pos b) = eqb a b
eq_z (pos a) (negsuc b) = false
eq_z (negsuc a) (pos b) = false
eq_z (negsuc a) (negsuc b) = eqb a b

-- "coordinates from -1,073,741,824 to 1,073,741,824 (2^30 each way)"
abbrev pub limit : ℕ
limit = 2 ^ 30

abbrev pub in_range : ℕ → ℤ → Bool
in_range L z = leb (nat_abs z) L

abbrev pub zero_to : ℕ → ℤ → Bool
zero_to n (pos k) = leb k n
zero_to n (negsuc k) = false

unfoldable pub step : ℕ → ℕ → ℤ
step L n = pos n -ℤ pos L
