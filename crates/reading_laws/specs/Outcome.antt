-- What going through a whole file or ring list comes to, whatever the room: a faulty number, or what is made of its rings. Over any refusals, by how they are told.
--
--   Made form make f out r after                 f is the form of good rings, r says so, and what is made of them stands in out
--   Outcome tell Fault form make f out r after   the reader's answer r, and the buffer out after it
--   ListOutcome make ns out r after              that of a ring list, whose refusals are the table's
use Rattle.std.specs.Prelude.{◌≡◌, ◌⊎◌, Result, Ok, List, ℤ, length}
use Rattle.std.proofs.lemmas.List.Edits.{sets}
use Rattle.meaning.specs.Numbers.{limit}
use Rattle.meaning.specs.Answers.{Answer, Row}
use Rattle.meaning.specs.Rings.{Ring, GoodRings, ring_numbers}
use Rattle.meaning.specs.Faults.{ListFault}
use Rattle.answers.specs.Told.{answer_of}
use Rattle.numbers.specs.Reading.{Reading, found, Refuses}
use Rattle.numbers.specs.declared.Number.{Number}

pub record Made {B C F : Type 0} (form : List Ring → List C) (make : List Ring → List B) (f : List C) (out : List B) (r : Result Number F) (after : List B) : Type 0 where
  pub rings : List Ring
  pub good : GoodRings limit rings
  pub from : f ≡ form rings
  pub is : r ≡ Ok (found (length (make rings)) (length f))
  pub wrote : after ≡ sets out 0 (make rings)

abbrev pub Outcome : {B C F : Type 0} → (F → Answer) → Row Answer → (List Ring → List C) → (List Ring → List B) → List C → List B → Result Number F → List B → Type 0
Outcome tell Fault form make f out r after = Refuses tell Fault r ⊎ Made form make f out r after

abbrev pub ListOutcome : {B : Type 0} → (List Ring → List B) → List ℤ → List B → Reading → List B → Type 0
ListOutcome make ns out r after = Outcome answer_of (ListFault limit ns) ring_numbers make ns out r after
