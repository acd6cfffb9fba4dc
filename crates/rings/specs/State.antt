-- What is known between two numbers of a ring list, and what the due number does to it. A coordinate z stands as z + 2^31.
--
--   greatest          how the greatest coordinate stands
--   start room        between rings, where other rings may have so many pairs
--   fault_of L s v     the row of the refusal of the due number v, which takes the place, where it has a fault
--   placed f at        that fault at a place
--   next_of s v        what is known after it
--   judged_as ..       the due number as a reader answers it
--   before_of s        the coordinate of the pair before, where a coordinate is due
--   due_in_list ..      the due number of a ring list, which stands 2^31 above itself
--   Sane s            the bounds that every state reached has; sane_before: so has the coordinate before
use native.Mathlib.Omega.{arith}
use Rattle.std.specs.Prelude.{◌≡◌, Bool, true, false, ℕ, ◌+◌, ◌-◌, ◌≤◌, ltb, eqb, Option, Some, None, Result, Ok, Err}
use Rattle.meaning.specs.Numbers.{pick, limit}
use Rattle.answers.specs.declared.Refusal.{Refusal}
use Rattle.answers.specs.declared.Refusal.TheVariants.{RingOutOfRange, NeighboursEqual, TooManyPairs}
use Rattle.numbers.specs.Reading.{Reading, Value}
use Rattle.rings.specs.declared.Due.{Due}
use Rattle.rings.specs.declared.Due.TheVariants.{Layer, Count, X, Y}
use Rattle.rings.specs.declared.State.{State}

abbrev pub greatest : ℕ
greatest = 2147483648 + limit

abbrev pub start : ℕ → State
start room = record { due = Layer; layer = 0; more = 0; room = room; fresh = true; px = 2147483648; py = 2147483648; fx = 2147483648; fy = 2147483648 }

-- ---- faults

abbrev pub outside : ℕ → ℕ → Bool
outside L v = pick (ltb v (2147483648 - L)) true (ltb (2147483648 + L) v)

-- v equals its neighbour before it, p, or at the ring's last pair the first, f
abbrev pub meets : Bool → ℕ → ℕ → ℕ → ℕ → Bool
meets fresh more v p f = pick fresh false (pick (eqb v p) true (pick (eqb more 0) (eqb v f) false))

abbrev pub coordinate_fault : ℕ → Bool → ℕ → ℕ → ℕ → ℕ → Option (ℕ → Refusal)
coordinate_fault L fresh more v p f = pick (outside L v) (Some RingOutOfRange) (pick (meets fresh more v p f) (Some NeighboursEqual) None)

abbrev pub fault_by : ℕ → Due → State → ℕ → Option (ℕ → Refusal)
fault_by L Layer s v = pick (ltb 7 v) (Some RingOutOfRange) None
fault_by L Count s v = pick (ltb v 2) (Some RingOutOfRange) (pick (ltb s.room v) (Some TooManyPairs) None)
fault_by L X s v = coordinate_fault L s.fresh s.more v s.px s.fx
fault_by L Y s v = coordinate_fault L s.fresh s.more v s.py s.fy

unfoldable pub fault_of : ℕ → State → ℕ → Option (ℕ → Refusal)
fault_of L s v = fault_by L s.due s v

abbrev pub placed : Option (ℕ → Refusal) → ℕ → Result Unit Refusal
placed None at = Ok tt
placed (Some f) at = Err (f at)

-- ---- the next state

abbrev pub first_of : Bool → ℕ → ℕ → ℕ
first_of fresh v f = pick fresh v f

abbrev pub next_by : Due → State → ℕ → State
next_by Layer s v = record { due = Count; layer = v; more = s.more; room = s.room; fresh = s.fresh; px = s.px; py = s.py; fx = s.fx; fy = s.fy }
next_by Count s v = record { due = X; layer = s.layer; more = v - 1; room = s.room - v; fresh = s.fresh; px = s.px; py = s.py; fx = s.fx; fy = s.fy }
next_by X s v = record { due = Y; layer = s.layer; more = s.more; room = s.room; fresh = s.fresh; px = v; py = s.py; fx = first_of s.fresh v s.fx; fy = s.fy }
next_by Y s v =
    pick (eqb s.more 0)
    (start s.room)
    (record { due = X; layer = s.layer; more = s.more - 1; room = s.room; fresh = false; px = s.px; py = v; fx = s.fx; fy = first_of s.fresh v s.fy })

unfoldable pub next_of : State → ℕ → State
next_of s v = next_by s.due s v

-- ---- readers

abbrev pub judged_by : Option (ℕ → Refusal) → ℕ → ℕ → ℕ → Reading
judged_by None v at next = Value v next
judged_by (Some f) v at next = Err (f at)

unfoldable pub judged_as : ℕ → State → ℕ → ℕ → ℕ → Reading
judged_as L s v at next = judged_by (fault_of L s v) v at next

abbrev pub may_end : Due → Bool
may_end Layer = true
may_end Count = false
may_end X = false
may_end Y = false

abbrev pub is_coordinate : Due → Bool
is_coordinate Layer = false
is_coordinate Count = false
is_coordinate X = true
is_coordinate Y = true

abbrev pub before_by : Due → State → Option ℕ
before_by Layer s = None
before_by Count s = None
before_by X s = Some s.px
before_by Y s = Some s.py

abbrev pub before_of : State → Option ℕ
before_of s = before_by s.due s

unfoldable pub due_in_list : ℕ → State → ℕ → ℕ → Reading
due_in_list L s u i = pick (is_coordinate s.due) (judged_as L s u i (i + 1)) (pick (ltb u 2147483648) (Err (RingOutOfRange i)) (judged_as L s (u - 2147483648) i (i + 1)))

pub record Sane (s : State) : Type 0 where
  pub layer : s.layer ≤ 7
  pub more : s.more ≤ 4096
  pub room : s.room ≤ 4096
  pub px : s.px ≤ greatest
  pub py : s.py ≤ greatest
  pub fx : s.fx ≤ greatest

pub sane_before : (d : Due) (s : State) (p : ℕ) → Sane s → before_by d s ≡ Some p → p ≤ greatest
sane_before Layer s p k e = absurd (cc)
sane_before Count s p k e = absurd (cc)
sane_before X s p k e = let i : s.px ≡ p = cc in omega (arith, k.px)
sane_before Y s p k e = let i : s.py ≡ p = cc in omega (arith, k.py)
