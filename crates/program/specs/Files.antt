-- From reading a mask file to what is printed over it. Assumes nothing.
--
--   numbers_few, edges_few   a good ring list has at most 12,288 numbers, and its edges have at most 16,384
--   file_refused, read_refused   what is printed of a file that is refused
--   RingEdges file ns        ns are the edges of the ring list of the file
--   read_most, made_most     how many numbers an accepted file has, and the edges that are made of them
--   made_accepted            its ring list is accepted where its edges are made
--   read_edges               these edges are those of the ring list of the file
--   file_edges               what is printed over them is printed over the file
use Rattle.std.specs.Prelude.{◌≡◌, List, [], ◌∷◌, ◌++◌, ℕ, ◌*◌, ◌≤◌, ℤ, length, take, drop}
use Rattle.std.proofs.Math.Path.{refl}
use Rattle.std.proofs.Common.{ap, ◌∙◌, subst, inl, inr, arith, lit≤, length-append, take_at}
use Rattle.meaning.specs.Numbers.{limit}
use Rattle.meaning.specs.Answers.{Answer, answer, accepted, file_too_long}
use Rattle.meaning.specs.Rings.{Pair, Ring, All, GoodRing, GoodRings, pairs_in, pair_numbers, ring_numbers, ring_edges}
use Rattle.meaning.specs.MaskFile.{five, bytes_of}
use Rattle.meaning.specs.Faults.{FileFault, Laid, Read, Edged}
use Rattle.meaning.specs.Printed.{first_line}
use Rattle.answers.specs.declared.Refusal.{Refusal}
use Rattle.answers.specs.Told.{answer_of, refusal_number}
use Rattle.ring_laws.specs.Trips.{Makes, made_front}
use Rattle.ring_laws.specs.Calls.{some, holds, file_fault_none, list_one, list_laid, laid_done, short_enough}
use Rattle.mask_laws.specs.Promises.{reads}
use Rattle.ringedges_laws.specs.Accepted.{ring_edges_accepted}
use Rattle.program.specs.Parts.{OfEdges, OfFile}

-- ---- how many numbers

pairs_length : (ps : List Pair) → length (pair_numbers ps) ≡ 2 * length ps
unfolding pair_numbers
pairs_length [] = refl
pairs_length (p ∷ ps) = omega (arith, pairs_length ps)

-- a ring has two numbers before those of its pairs, and two pairs at least
rings_length : (L : ℕ) (rs : List Ring) → All (GoodRing L) rs → length (ring_numbers rs) ≤ 3 * pairs_in rs
unfolding ring_numbers pairs_in
rings_length L [] g = lit≤ tt
rings_length L (r ∷ rs) g = omega (arith, g.0.two, rings_length L rs g.1, pairs_length r.pairs, length-append (pair_numbers r.pairs) (ring_numbers rs))

module _ (rs : List Ring) (g : GoodRings limit rs) where
  pub numbers_few : length (ring_numbers rs) ≤ 12288
  numbers_few = omega (arith, g.few, rings_length limit rs g.each)

  pub edges_few : length (ring_edges rs) ≤ 16384
  edges_few = let a = ring_edges_accepted limit rs g in omega (arith, a.list.fours, a.list.few)

-- ---- a file that is refused

-- there is room for every good ring list
laid_accepts : (rs : List Ring) (out after : List ℤ) (k v : ℕ) → GoodRings limit rs → length out ≡ 12288 → Laid (ring_numbers rs) out (answer k v, after) → k ≡ 0
laid_accepts rs out after k v g room (inl x) = absurd (omega (arith, x.0, numbers_few rs g))
laid_accepts rs out after k v g room (inr x) = ap (λ r. r.0.number) x.1

pub file_refused : (file text : List ℕ) (out after : List ℤ) (k v : ℕ) → length out ≡ 12288 → (k ≡ 0 → ⊥) → Read file out (answer k v, after) → OfFile file text (first_line (answer k v))
unfolding Read OfFile
file_refused file text out after k v room n (inl x) = inl (answer k v, (x.0, ap (λ r. r.0) x.1), refl)
file_refused file text out after k v room n (inr (m, inl x)) = inr ((λ s y. m (file_too_long, out) (y.1.0, refl)), inl (answer k v, x.0, refl))
file_refused file text out after k v room n (inr (m, inr (_, (rs, g, e, l)))) = absurd (n (laid_accepts rs out after k v g room l))

pub read_refused : (file text : List ℕ) (out after : List ℤ) (r : Refusal) → length out ≡ 12288 → Read file out (answer_of r, after) → OfFile file text (first_line (answer_of r))
read_refused file text out after r room x = file_refused file text out after (answer_of r).number (answer_of r).value room (refusal_number r) x

-- ---- a file that is accepted

pub record RingEdges (file : List ℕ) (ns : List ℤ) : Type 0 where
  pub rings : List Ring
  pub good : GoodRings limit rings
  pub is : file ≡ bytes_of five rings
  pub edges : ns ≡ ring_edges rings

module _ (rs : List Ring) (g : GoodRings limit rs) (room made : List ℤ) (h : length room ≡ 16384) (b : Answer) (y : Edged (ring_numbers rs) room (b, made)) where
  -- there is room for the edges of every good ring list
  edges_made : ◌≡◌ {A = Answer × List ℤ} (b, made) (accepted (length (ring_edges rs)), ring_edges rs ++ drop (length (ring_edges rs)) room)
  unfolding Edged
  edges_made = list_one ring_edges (ring_numbers rs) room _ _ y (list_laid ring_edges (ring_numbers rs) room rs _ g refl (laid_done (ring_edges rs) room (omega (arith, edges_few rs g))))

  made_count : b.value ≡ length (ring_edges rs)
  made_count = ap (λ r. r.0.value) edges_made

  made_edges : take b.value made ≡ ring_edges rs
  made_edges = ap (λ r. take r.0.value r.1) edges_made ∙ take_at (ring_edges rs) (drop (length (ring_edges rs)) room) (length (ring_edges rs)) refl

module _ (file : List ℕ) (out after : List ℤ) (k n : ℕ) (z : k ≡ 0) (x : Read file out (answer k n, after)) where
  listed : (rs : List Ring) × GoodRings limit rs × (file ≡ bytes_of five rs) × Makes (ring_numbers rs) out n after
  listed = (reads file out n after).0 (subst (λ (m : ℕ). Read file out (answer m n, after)) z x)

  pub read_most : n ≤ length out
  read_most = omega (arith, listed.3.count, listed.3.room)

  module _ (room made : List ℤ) (h : length room ≡ 16384) (b : Answer) (y : Edged (take n after) room (b, made)) where
    list_front : take n after ≡ ring_numbers listed.0
    list_front = made_front (ring_numbers listed.0) out n after listed.3

    made_of : Edged (ring_numbers listed.0) room (b, made)
    made_of = subst (λ (ns : List ℤ). Edged ns room (b, made)) list_front y

    pub made_accepted : (v : ℕ) × (b ≡ accepted v)
    made_accepted = (length (ring_edges listed.0), ap (λ r. r.0) (edges_made listed.0 listed.1 room made h b made_of))

    pub made_most : b.value ≤ 16384
    made_most = omega (arith, made_count listed.0 listed.1 room made h b made_of, edges_few listed.0 listed.1)

    pub read_edges : RingEdges file (take b.value made)
    read_edges = record { rings = listed.0; good = listed.1; is = listed.2; edges = made_edges listed.0 listed.1 room made h b made_of }

pub file_edges : (file text : List ℕ) (ns : List ℤ) (t : List ℕ) → RingEdges file ns → OfEdges ns text t → OfFile file text t
unfolding OfFile
file_edges file text ns t r x = inr (
  (λ s y. omega (arith, y.1.0, ap length r.is, short_enough r.rings r.good)),
  inr (
    (λ s y. file_fault_none five limit some holds r.rings r.good y.0 (subst (λ (f : List ℕ). FileFault five limit f y.0) r.is y.1)),
    (r.rings, r.good, r.is, subst (λ (l : List ℤ). OfEdges l text t) r.edges x),
  ),
)
