-- The due number of a file, as the code reads it. A coordinate z stands as z + 2^31.
--
--   moved p n        the coordinate that lies a stored difference n from p
--   value_of s n      the due number that is stored as n
--   minus_zero d n    n is minus zero, where d is due
--   lifted_of d v     the due number v, 2^31 above itself
--   due_in_file ..     the due number at a place of a file of len bytes, by what stands at the front of the bytes there
use Rattle.std.specs.Prelude.{Bool, false, ℕ, ◌+◌, ◌-◌, ◌/◌, ◌%◌, eqb, Err}
use Rattle.meaning.specs.Numbers.{pick, limit}
use Rattle.answers.specs.declared.Refusal.TheVariants.{EndsInside, BadNumber}
use Rattle.ring_laws.specs.Groups.{Front, cut, bad, number}
use Rattle.numbers.specs.Reading.{Reading}
use Rattle.rings.specs.State.{is_coordinate, judged_as}
use Rattle.rings.specs.declared.Due.{Due}
use Rattle.rings.specs.declared.Due.TheVariants.{Layer, Count, X, Y}
use Rattle.rings.specs.declared.State.{State}

abbrev pub moved : ℕ → ℕ → ℕ
moved p n = pick (eqb (n % 2) 0) (p + n / 2) (p - n / 2)

abbrev pub value_by : Due → State → ℕ → ℕ
value_by Layer s n = n
value_by Count s n = n
value_by X s n = moved s.px n
value_by Y s n = moved s.py n

unfoldable pub value_of : State → ℕ → ℕ
value_of s n = value_by s.due s n

abbrev pub minus_zero : Due → ℕ → Bool
minus_zero d n = pick (eqb n 1) (is_coordinate d) false

unfoldable pub due_in_file : ℕ → State → ℕ → Front → Reading
due_in_file len s at cut = Err (EndsInside len)
due_in_file len s at bad = Err (BadNumber at)
due_in_file len s at (number n c) = pick (minus_zero s.due n) (Err (BadNumber at)) (judged_as limit s (value_of s n) at (at + c))

abbrev pub lifted_of : Due → ℕ → ℕ
lifted_of d v = pick (is_coordinate d) v (v + 2147483648)
