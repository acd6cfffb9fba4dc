-- What is promised of `maskfile::read`, `maskwriter::write` and `ringedges::edges_of`, whose contracts are the tables `Read`, `Written` and
-- `Edged`. Assumes nothing.
--
--   one_read, one_write, one_edges     answers meeting a contract are equal, and so are the buffers after it
--   one_read_in_c, one_write_in_c, one_edges_in_c     the same of the answers in C
--   reads, writes, makes-edges, reading-writing, writing-reading, fits   stated and proved in `ringlaws`
--   told_by_file, told_by_list         a good ring list is told by its file, and by its numbers
use Rattle.std.specs.Prelude.{◌≡◌, List, ℕ, ℤ, Result}
use Rattle.std.proofs.Common.{ap}
use Rattle.meaning.specs.Numbers.{limit}
use Rattle.meaning.specs.Answers.{Answer}
use Rattle.meaning.specs.Rings.{Ring, GoodRings, ring_numbers, ring_edges}
use Rattle.meaning.specs.MaskFile.{five, bytes_of}
use Rattle.meaning.specs.Faults.{Read, Written, Edged}
use Rattle.answers.specs.Said.{said, said_same}
use Rattle.answers.specs.Told.{told, told_same}
use Rattle.answers.specs.declared.Answer.{Answer as Given}
use Rattle.answers.specs.declared.Refusal.{Refusal}
use Rattle.ring_laws.specs.Meet.{one_file, one_list}
use Rattle.ring_laws.specs.Calls.{holds, some, read_one, list_one}
-- WHAT IS ACCEPTED, and with what: exactly the good ring lists
pub use Rattle.ring_laws.specs.Trips.{read_accepts as reads, write_accepts as writes, edges_accepts as makes-edges}
-- THE ROUND TRIPS: "Reading then writing gives the same bytes; writing then reading gives the same list."
pub use Rattle.ring_laws.specs.Trips.{read_write as reading-writing, write_read as writing-reading}
-- ROOM: every list that is written fits the 49,152 bytes
pub use Rattle.ring_laws.specs.Calls.{short_enough as fits}

same_both : {B : Type 0} (r s : Result ℕ Refusal) (o p : List B) → ◌≡◌ {A = Answer × List B} (told r, o) (told s, p) → (r ≡ s) × (o ≡ p)
same_both r s o p e = (told_same r s (ap (λ x. x.0) e), ap (λ x. x.1) e)

pub one_read : (f : List ℕ) (out o p : List ℤ) (r s : Result ℕ Refusal) → Read f out (told r, o) → Read f out (told s, p) → (r ≡ s) × (o ≡ p)
one_read f out o p r s x y = same_both r s o p (read_one f out (told r, o) (told s, p) x y)

pub one_write : (ns : List ℤ) (out o p : List ℕ) (r s : Result ℕ Refusal) → Written ns out (told r, o) → Written ns out (told s, p) → (r ≡ s) × (o ≡ p)
unfolding Written
one_write ns out o p r s x y = same_both r s o p (list_one (bytes_of five) ns out (told r, o) (told s, p) x y)

pub one_edges : (ns out o p : List ℤ) (r s : Result ℕ Refusal) → Edged ns out (told r, o) → Edged ns out (told s, p) → (r ≡ s) × (o ≡ p)
unfolding Edged
one_edges ns out o p r s x y = same_both r s o p (list_one ring_edges ns out (told r, o) (told s, p) x y)

same_in_c : {B : Type 0} (r s : Given) (o p : List B) → ◌≡◌ {A = Answer × List B} (said r, o) (said s, p) → (r ≡ s) × (o ≡ p)
same_in_c r s o p e = (said_same r s (ap (λ x. x.0) e), ap (λ x. x.1) e)

pub one_read_in_c : (f : List ℕ) (out o p : List ℤ) (r s : Given) → Read f out (said r, o) → Read f out (said s, p) → (r ≡ s) × (o ≡ p)
one_read_in_c f out o p r s x y = same_in_c r s o p (read_one f out (said r, o) (said s, p) x y)

pub one_write_in_c : (ns : List ℤ) (out o p : List ℕ) (r s : Given) → Written ns out (said r, o) → Written ns out (said s, p) → (r ≡ s) × (o ≡ p)
unfolding Written
one_write_in_c ns out o p r s x y = same_in_c r s o p (list_one (bytes_of five) ns out (said r, o) (said s, p) x y)

pub one_edges_in_c : (ns out o p : List ℤ) (r s : Given) → Edged ns out (said r, o) → Edged ns out (said s, p) → (r ≡ s) × (o ≡ p)
unfolding Edged
one_edges_in_c ns out o p r s x y = same_in_c r s o p (list_one ring_edges ns out (said r, o) (said s, p) x y)

-- a good ring list is told by its file, and by its numbers
pub told_by_file : (rs qs : List Ring) → GoodRings limit rs → GoodRings limit qs → bytes_of five rs ≡ bytes_of five qs → rs ≡ qs
told_by_file = one_file five limit some holds

pub told_by_list : (rs qs : List Ring) → GoodRings limit rs → GoodRings limit qs → ring_numbers rs ≡ ring_numbers qs → rs ≡ qs
told_by_list = one_list limit
