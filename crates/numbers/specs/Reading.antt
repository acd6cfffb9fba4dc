-- What a reader answers: a value with the place after it, or a refusal.
--
--   Reading                the type of these answers
--   found v next           the value v, with the place after it
--   Value v next           that as a reader's answer
--   answer_of r            the paper's number and value for each case
--   reading ..             what a reader of numbers answers, by what stands at the front of the bytes at a place
--   joined b start r       a group b that is continued, before what was read after it
--
-- and over any refusals, `tell` being how they are told in the paper's numbers, and `short` which one says that the room is too short:
--
--   in_numbers tell r         an answer with its refusal as it is told
--   settled_of short r room   what a call may go on with, whose result has this room
--   Refuses tell Fault r      a refusal by a table
use Rattle.std.specs.Prelude.{◌≡◌, ℕ, ◌+◌, ◌*◌, ◌%◌, eqb, ltb, Result, Ok, Err}
use Rattle.meaning.specs.Numbers.{pick}
use Rattle.meaning.specs.Answers.{Answer, Row, accepted}
use Rattle.answers.specs.Told.{answer_of as refusal_answer}
use Rattle.answers.specs.declared.Refusal.{Refusal}
use Rattle.answers.specs.declared.Refusal.TheVariants.{EndsInside, BadNumber}
use Rattle.ring_laws.specs.Groups.{Front, cut, bad, number}
use Rattle.numbers.specs.declared.Number.{Number}

abbrev pub Reading : Type 0
Reading = Result Number Refusal

abbrev pub found : ℕ → ℕ → Number
found v next = record { value = v; next = next }

abbrev pub Value : ℕ → ℕ → Reading
Value v next = Ok (found v next)

abbrev pub answer_of : Reading → Answer
answer_of (Ok n) = accepted n.value
answer_of (Err f) = refusal_answer f

abbrev pub in_numbers : {F : Type 0} → (F → Answer) → Result Number F → Result Number Answer
in_numbers tell (Ok n) = Ok n
in_numbers tell (Err f) = Err (tell f)

-- "18 last": a refusal as it is, then the room
unfoldable pub settled_of : {F : Type 0} → (ℕ → F) → Result Number F → ℕ → Result Number F
settled_of short (Ok n) room = pick (ltb room n.value) (Err (short n.value)) (Ok n)
settled_of short (Err f) room = Err f

-- the bytes stand at the place `at` of a file of len bytes, and the number begins at the place start
unfoldable pub reading : ℕ → ℕ → ℕ → Front → Reading
reading len start at cut = Err (EndsInside len)
reading len start at bad = Err (BadNumber start)
reading len start at (number v n) = Value v (at + n)

abbrev pub joined : ℕ → ℕ → Reading → Reading
joined b start (Ok n) = pick (eqb n.value 0) (Err (BadNumber start)) (Value (b % 128 + 128 * n.value) n.next)
joined b start (Err f) = Err f

-- r is a refusal that the table of faults has
pub record Refuses {F : Type 0} (tell : F → Answer) (Fault : Row Answer) (r : Result Number F) : Type 0 where
  pub refusal : F
  pub is : r ≡ Err refusal
  pub fault : Fault (tell refusal)
