-- What the calls accept, and both round trips. Assumes nothing.
--
--   read_accepts, list_accepts, write_accepts, edges_accepts   an accepted call: its input is the form of a good ring list, and what it writes is another
--   made_front    what an accepted call wrote is the front of its buffer
--   read_write    what reads as a list writes back as the same bytes
--   write_read    what a list writes reads back as the same list
use Rattle.std.specs.Prelude.{◌≡◌, refl, ◌↔◌, List, ◌++◌, ℕ, ◌≤◌, ℤ, length, take, drop}
use Rattle.std.proofs.Common.{ap, subst, inl, inr, arith}
use Rattle.std.proofs.Math.Decide.{dec_le}
use Rattle.std.proofs.Math.Seq.{take-append_seam}
use Rattle.meaning.specs.Numbers.{limit}
use Rattle.meaning.specs.Answers.{Answer, answer, accepted, room_too_short}
use Rattle.meaning.specs.Rings.{Ring, GoodRings, ring_numbers, ring_edges}
use Rattle.meaning.specs.MaskFile.{five, bytes_of}
use Rattle.meaning.specs.Faults.{Begun, at_layer, at_count, at_x, at_y, DueJudged, DueInFile, FileFault, DueInList, ListFault, Laid, Read, OfList, Written, Edged}
use Rattle.ring_laws.specs.Groups.{clash}
use Rattle.ring_laws.specs.Calls.{short_enough, read_laid, list_laid, laid_done}

-- ---- no refusal has the number 0

refusal : (n v m : ℕ) → answer 0 v ≡ answer n m → 0 ≡ n
refusal n v m e = ap (λ (a : Answer). a.number) e

judged_refuses : (L : ℕ) (b : Begun) (z : ℤ) (p v : ℕ) → DueJudged L b z p (accepted v) → ⊥
judged_refuses L (at_layer rs) z p v j = clash (cc (refusal 15 v p j.1))
judged_refuses L (at_count rs l) z p v (inl j) = clash (cc (refusal 15 v p j.1))
judged_refuses L (at_count rs l) z p v (inr j) = clash (cc (refusal 17 v p j.1.1))
judged_refuses L (at_x rs l k ps) z p v (inl j) = clash (cc (refusal 15 v p j.1))
judged_refuses L (at_x rs l k ps) z p v (inr j) = clash (cc (refusal 16 v p j.1.1))
judged_refuses L (at_y rs l k ps x) z p v (inl j) = clash (cc (refusal 15 v p j.1))
judged_refuses L (at_y rs l k ps x) z p v (inr j) = clash (cc (refusal 16 v p j.1.1))

due_refuses : (G L : ℕ) (b : Begun) (bs : List ℕ) (p len v : ℕ) → DueInFile G L b bs p len (accepted v) → ⊥
due_refuses G L b bs p len v (inl j) = clash (cc (refusal 12 v len j.1))
due_refuses G L b bs p len v (inr (n, inl j)) = clash (cc (refusal 13 v p j.1))
due_refuses G L b bs p len v (inr (n, inr (m, x))) = judged_refuses L b x.z p v x.judged

file_refuses : (G L : ℕ) (f : List ℕ) (v : ℕ) → FileFault G L f (accepted v) → ⊥
file_refuses G L f v (inl j) = clash (cc (refusal 12 v (length f) j.1))
file_refuses G L f v (inr (n, inl j)) = clash (cc (refusal 13 v 0 j.1))
file_refuses G L f v (inr (n, inr (m, inl j))) = clash (cc (refusal 14 v 0 j.1))
file_refuses G L f v (inr (n, inr (m, inr (k, x)))) = due_refuses G L x.begun x.rest (length x.front) (length f) v x.due

list_refuses : (L : ℕ) (ns : List ℤ) (v : ℕ) → ListFault L ns (accepted v) → ⊥
list_refuses L ns v x = go x.due
  where
    go : DueInList L x.begun x.rest (length x.front) (length ns) (accepted v) → ⊥
    go (inl j) = clash (cc (refusal 12 v (length ns) j.1))
    go (inr (n, y)) = judged_refuses L x.begun y.0 (length x.front) v y.3

-- ---- what is accepted, and with what

-- the answer and the buffer of an accepted call that makes the list made
pub record Makes {B : Type 0} (made out : List B) (n : ℕ) (after : List B) : Type 0 where
  pub count : n ≡ length made
  pub room : length made ≤ length out
  pub is : after ≡ made ++ drop (length made) out

laid_makes : {B : Type 0} (made out : List B) (n : ℕ) (after : List B) → Laid made out (accepted n, after) → Makes made out n after
laid_makes made out n after (inl l) = clash (cc (refusal 18 n (length made) (ap (λ r. r.0) l.1)))
laid_makes made out n after (inr l) =
    let e : answer 0 n ≡ answer 0 (length made) = ap (λ r. r.0) l.1 in
    record { count = ap (λ (a : Answer). a.value) e; room = room (dec_le (length made) (length out)); is = ap (λ r. r.1) l.1 }
  where
    room : Dec (length made ≤ length out) → length made ≤ length out
    room (yes h) = h
    room (no h) = absurd (l.0 (room_too_short (length made), out) (omega arith, refl))

makes_laid : {B : Type 0} (made out : List B) (n : ℕ) (after : List B) → Makes made out n after → Laid made out (accepted n, after)
makes_laid made out n after m = rw (m.count, m.is) (laid_done made out m.room)

pub read_accepts : (f : List ℕ) (out : List ℤ) (n : ℕ) (after : List ℤ) → Read f out (accepted n, after) ↔ ((rs : List Ring) × GoodRings limit rs × (f ≡ bytes_of five rs) × Makes (ring_numbers rs) out n after)
unfolding Read
read_accepts f out n after = (there, λ x. read_laid f out x.0 (accepted n, after) (rw x.2 (short_enough x.0 x.1)) x.1 x.2 (makes_laid (ring_numbers x.0) out n after x.3))
  where
    there : Read f out (accepted n, after) → (rs : List Ring) × GoodRings limit rs × (f ≡ bytes_of five rs) × Makes (ring_numbers rs) out n after
    there (inl j) = clash (cc (refusal 11 n 0 (ap (λ r. r.0) j.1)))
    there (inr (k, inl j)) = absurd (file_refuses five limit f n j.0)
    there (inr (k, inr (m, x))) = (x.0, x.1, x.2, laid_makes (ring_numbers x.0) out n after x.3)

pub list_accepts : {B : Type 0} (make : List Ring → List B) (ns : List ℤ) (out : List B) (n : ℕ) (after : List B) → OfList make ns out (accepted n, after) ↔ ((rs : List Ring) × GoodRings limit rs × (ns ≡ ring_numbers rs) × Makes (make rs) out n after)
list_accepts {B} make ns out n after = (there, λ x. list_laid make ns out x.0 (accepted n, after) x.1 x.2 (makes_laid (make x.0) out n after x.3))
  where
    there : OfList make ns out (accepted n, after) → (rs : List Ring) × GoodRings limit rs × (ns ≡ ring_numbers rs) × Makes (make rs) out n after
    there (inl j) = absurd (list_refuses limit ns n j.0)
    there (inr (m, x)) = (x.0, x.1, x.2, laid_makes (make x.0) out n after x.3)

-- "writer": the bytes of the list's file; "edge maker": the numbers of its edges
pub write_accepts : (ns : List ℤ) (out : List ℕ) (n : ℕ) (after : List ℕ) → Written ns out (accepted n, after) ↔ ((rs : List Ring) × GoodRings limit rs × (ns ≡ ring_numbers rs) × Makes (bytes_of five rs) out n after)
unfolding Written
write_accepts ns out n after = list_accepts (bytes_of five) ns out n after

pub edges_accepts : (ns out : List ℤ) (n : ℕ) (after : List ℤ) → Edged ns out (accepted n, after) ↔ ((rs : List Ring) × GoodRings limit rs × (ns ≡ ring_numbers rs) × Makes (ring_edges rs) out n after)
unfolding Edged
edges_accepts ns out n after = list_accepts ring_edges ns out n after

-- ---- round trips: what an accepted call wrote is the first n of its buffer

pub made_front : {B : Type 0} (made out : List B) (n : ℕ) (after : List B) → Makes made out n after → take n after ≡ made
made_front made out n after m = rw (m.count, m.is) (take-append_seam made (drop (length made) out))

-- "Reading then writing gives the same bytes"
pub read_write : (f : List ℕ) (out : List ℤ) (n : ℕ) (after : List ℤ) → Read f out (accepted n, after) → (room : List ℕ) → length f ≤ length room → Written (take n after) room (accepted (length f), f ++ drop (length f) room)
read_write f out n after r room h =
    let x = (read_accepts f out n after).0 r in
    (write_accepts (take n after) room (length f) (f ++ drop (length f) room)).1
    (x.0, x.1, made_front (ring_numbers x.0) out n after x.3, subst (λ (l : List ℕ). Makes l room (length f) (f ++ drop (length f) room)) x.2 (record { count = refl; room = h; is = refl }))

-- "writing then reading gives the same list"
pub write_read : (ns : List ℤ) (out : List ℕ) (n : ℕ) (after : List ℕ) → Written ns out (accepted n, after) → (room : List ℤ) → length ns ≤ length room → Read (take n after) room (accepted (length ns), ns ++ drop (length ns) room)
write_read ns out n after r room h =
    let x = (write_accepts ns out n after).0 r in
    (read_accepts (take n after) room (length ns) (ns ++ drop (length ns) room)).1
    (x.0, x.1, made_front (bytes_of five x.0) out n after x.3, subst (λ (l : List ℤ). Makes l room (length ns) (ns ++ drop (length ns) room)) x.2 (record { count = refl; room = h; is = refl }))
