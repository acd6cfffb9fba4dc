-- A number as a file stores it, made by the code. A coordinate z stands as z + 2^31.
--
--   difference p v   the stored difference of v from p
--   stored_of s v     the due number v, stored
use Rattle.std.specs.Prelude.{ℕ, ◌+◌, ◌-◌, ◌*◌, ltb}
use Rattle.meaning.specs.Numbers.{pick}
use Rattle.rings.specs.declared.Due.{Due}
use Rattle.rings.specs.declared.Due.TheVariants.{Layer, Count, X, Y}
use Rattle.rings.specs.declared.State.{State}

abbrev pub difference : ℕ → ℕ → ℕ
difference p v = pick (ltb v p) (2 * (p - v) + 1) (2 * (v - p))

abbrev pub stored_by : Due → State → ℕ → ℕ
stored_by Layer s v = v
stored_by Count s v = v
stored_by X s v = difference s.px v
stored_by Y s v = difference s.py v

unfoldable pub stored_of : State → ℕ → ℕ
stored_of s v = stored_by s.due s v
