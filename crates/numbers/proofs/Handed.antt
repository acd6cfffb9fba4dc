-- What may be handed on: any refusal, and not those of the table alone. Assumes nothing.
--
--   any_refusal   a refusal is handed on as it is, whatever the refusals are
--   any_number    so is one of any number and value
use mathlib.Core.Path.{◌≡◌, refl}
use Prim.Native.Nat.{ℕ}
use Rattle.std.specs.Prelude.{Err}
use Rattle.meaning.specs.Answers.{answer, room_too_short}
use Rattle.numbers.specs.Reading.{settled_of}

pub any_refusal : {F : Type 0} (short : ℕ → F) (f : F) (room : ℕ) → settled_of short (Err f) room ≡ Err f
unfolding settled_of
any_refusal short f room = refl

pub any_number : (n v room : ℕ) → settled_of room_too_short (Err (answer n v)) room ≡ Err (answer n v)
any_number n v room = any_refusal room_too_short (answer n v) room
