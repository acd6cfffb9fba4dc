-- The calls `read`, `write` and `edges_of` as tables: each has one answer and one buffer for every input; and which answer each case has. Assumes
-- nothing.
--
--   file_fault_one                     a file has at most one first fault
--   read_one, list_one                 answers meeting a table are equal, and so are the buffers after it
--   read_long, read_fault, read_laid   the rows of the table of `read`
--   list_fault, list_laid              the rows of a table over a ring list
--   laid_short, laid_done   the end of a table
--   short_enough    the file of a good ring list has at most 49,152 bytes
use Rattle.std.specs.Prelude.{◌≡◌, refl, ◌⊎◌, ℕ, ◌+◌, ◌*◌, ◌≤◌, ◌<◌, ℤ, ◌-ℤ◌, length, drop}
use Rattle.std.proofs.Common.{sym, ap, ap₂, subst, ◌∙◌, arith, lit≤, length-append}
use Rattle.std.proofs.Math.Logic.{inl, inr}
use mathlib.Core.List.{List, [], ◌∷◌, ◌++◌}
use Rattle.meaning.specs.Numbers.{limit}
use Rattle.meaning.specs.Answers.{Answer, accepted, Row, given, file_too_long, ends_inside, bad_number, other_edition, room_too_short}
use Rattle.meaning.specs.Rings.{Pair, Ring, All, GoodRing, GoodRings, pairs_in, ring_numbers}
use Rattle.meaning.specs.MaskFile.{spelt, five, signed, further_pairs, stored_pairs, stored_rings, bytes_of_all, bytes_of, longest, Stands, Cut, NotShortest, TooLong}
use Rattle.meaning.specs.Faults.{RingFault, FileFault, ListFault, Laid, Read, OfList}
use Rattle.basic_laws.specs.Tables.{Single, single_given, one_answer}
use Rattle.ring_laws.specs.Groups.{clash, front_cut, front_bad, spelt_one, spelt_most, spelt_two}
use Rattle.ring_laws.specs.Forms.{Holds}
use Rattle.ring_laws.specs.Meet.{stands_front, stands_one, ring_fault_one, ring_fault_none, one_file, list_fault_one, list_fault_none, one_list}

-- ---- the first faulty number of a file

module _ (G L : ℕ) (o : 1 ≤ G) (h : Holds G L) where
  pub file_fault_one : (f : List ℕ) → Single (FileFault G L f)
  file_fault_one f =
      one_answer (given (Cut G f) (ends_inside (length f)) ∷ given (TooLong G f ⊎ NotShortest G f) (bad_number 0) ∷ given ((v : ℕ) × Stands G v f × (v ≡ 1 → ⊥)) other_edition ∷ []) (RingFault G L f)
      (single_given (Cut G f) (ends_inside (length f)), (single_given (TooLong G f ⊎ NotShortest G f) (bad_number 0), (single_given ((v : ℕ) × Stands G v f × (v ≡ 1 → ⊥)) other_edition, tt)))
      (ring_fault_one G L o f)

  edition : (rs : List Ring) → Stands G 1 (bytes_of G rs)
  edition rs = record { rest = bytes_of_all G (stored_rings rs); is = refl; fits = omega (arith, h.1) }

  pub file_fault_none : (rs : List Ring) → GoodRings L rs → (a : Answer) → FileFault G L (bytes_of G rs) a → ⊥
  file_fault_none rs g a (inl c) = clash (cc (front_cut G (bytes_of G rs) c.0, stands_front G L o (edition rs)))
  file_fault_none rs g a (inr (m, inl c)) = clash (cc (front_bad G (bytes_of G rs) c.0, stands_front G L o (edition rs)))
  file_fault_none rs g a (inr (m, inr (n, inl c))) = c.0.2 (stands_one G L o c.0.1 (edition rs))
  file_fault_none rs g a (inr (m, inr (n, inr (k, x)))) = ring_fault_none G L o h rs g a x

pub holds : Holds five limit
holds = (lit≤ tt, lit≤ tt)

pub some : 1 ≤ five
some = lit≤ tt

-- ---- one answer, one buffer

laid_one : {B : Type 0} (made out : List B) → Single (Laid made out)
laid_one made out =
    one_answer (given (length out < length made) (room_too_short (length made), out) ∷ []) (λ r. r ≡ (accepted (length made), made ++ drop (length made) out))
    (single_given (length out < length made) (room_too_short (length made), out), tt) (λ r s x y. x ∙ sym y)

-- a row that refuses with a faulty number and keeps the buffer
fault_row : {B : Type 0} (F : Row Answer) (out : List B) → Single F → Single {A = Answer × List B} (λ r. F r.0 × (r.1 ≡ out))
fault_row F out u r s x y = ap₂ (λ a l. (a, l)) (u r.0 s.0 x.0 y.0) (x.1 ∙ sym y.1)

-- the end of a table: some good ring list that the input is, and what is made of it
made_one : {B C : Type 0} (f : List C) (form : List Ring → List C) (make : List Ring → List B) (out : List B) → ((rs qs : List Ring) → GoodRings limit rs → GoodRings limit qs → form rs ≡ form qs → rs ≡ qs) → Single {A = Answer × List B} (λ r. (rs : List Ring) × GoodRings limit rs × (f ≡ form rs) × Laid (make rs) out r)
made_one f form make out one r s x y =
    let e : x.0 ≡ y.0 = one x.0 y.0 x.1 y.1 (sym x.2 ∙ y.2) in
    laid_one (make y.0) out r s (subst (λ (rs : List Ring). Laid (make rs) out r) e x.3) y.3

pub read_one : (f : List ℕ) (out : List ℤ) → Single (Read f out)
unfolding Read
read_one f out =
    one_answer (given (longest < length f) (file_too_long, out) ∷ (λ r. FileFault five limit f r.0 × (r.1 ≡ out)) ∷ []) (λ r. (rs : List Ring) × GoodRings limit rs × (f ≡ bytes_of five rs) × Laid (ring_numbers rs) out r)
    (single_given (longest < length f) (file_too_long, out), (fault_row (FileFault five limit f) out (file_fault_one five limit some holds f), tt))
    (made_one f (bytes_of five) ring_numbers out (one_file five limit some holds))

pub list_one : {B : Type 0} (make : List Ring → List B) (ns : List ℤ) (out : List B) → Single (OfList make ns out)
list_one make ns out =
    one_answer ((λ r. ListFault limit ns r.0 × (r.1 ≡ out)) ∷ []) (λ r. (rs : List Ring) × GoodRings limit rs × (ns ≡ ring_numbers rs) × Laid (make rs) out r)
    (fault_row (ListFault limit ns) out (list_fault_one limit ns), tt)
    (made_one ns ring_numbers make out (one_list limit))

-- ---- the rows

module _ (f : List ℕ) (out : List ℤ) where
  pub read_long : longest < length f → Read f out (file_too_long, out)
  unfolding Read
  read_long h = inl (h, refl)

  pub read_fault : (a : Answer) → length f ≤ longest → FileFault five limit f a → Read f out (a, out)
  unfolding Read
  read_fault a h x = inr (λ s g. omega (arith, g.0), inl (x, refl))

  pub read_laid : (rs : List Ring) (r : Answer × List ℤ) → length f ≤ longest → GoodRings limit rs → f ≡ bytes_of five rs → Laid (ring_numbers rs) out r → Read f out r
  unfolding Read
  read_laid rs r h g e l =
      inr (λ s u. omega (arith, u.0), inr (λ s u. file_fault_none five limit some holds rs g s.0 (subst (λ (x : List ℕ). FileFault five limit x s.0) e u.0), (rs, g, e, l)))

module _ {B : Type 0} (make : List Ring → List B) (ns : List ℤ) (out : List B) where
  pub list_fault : (a : Answer) → ListFault limit ns a → OfList make ns out (a, out)
  list_fault a x = inl (x, refl)

  pub list_laid : (rs : List Ring) (r : Answer × List B) → GoodRings limit rs → ns ≡ ring_numbers rs → Laid (make rs) out r → OfList make ns out r
  list_laid rs r g e l =
      inr (λ s u. list_fault_none limit rs g s.0 (subst (λ (x : List ℤ). ListFault limit x s.0) e u.0), (rs, g, e, l))

pub laid_short : {B : Type 0} (made out : List B) → length out < length made → Laid made out (room_too_short (length made), out)
laid_short made out h = inl (h, refl)

pub laid_done : {B : Type 0} (made out : List B) → length made ≤ length out → Laid made out (accepted (length made), made ++ drop (length made) out)
laid_done made out h = inr (λ s g. omega (arith, g.0), refl)

-- ---- how long a file is

bytes_length : (G : ℕ) (vs ws : List ℕ) → length (bytes_of_all G (vs ++ ws)) ≡ length (bytes_of_all G vs) + length (bytes_of_all G ws)
unfolding bytes_of_all
bytes_length G [] ws = omega arith
bytes_length G (v ∷ vs) ws =
    omega (arith, length-append (spelt G v) (bytes_of_all G (vs ++ ws)), length-append (spelt G v) (bytes_of_all G vs), bytes_length G vs ws)

further_length : (p : Pair) (ps : List Pair) → length (bytes_of_all five (further_pairs p ps)) ≤ 10 * length ps
unfolding bytes_of_all further_pairs
further_length p [] = lit≤ tt
further_length p (q ∷ ps) =
    omega (arith, further_length q ps, length-append (spelt five (signed (q.x -ℤ p.x))) (spelt five (signed (q.y -ℤ p.y)) ++ bytes_of_all five (further_pairs q ps)), length-append (spelt five (signed (q.y -ℤ p.y))) (bytes_of_all five (further_pairs q ps)), spelt_most five (signed (q.x -ℤ p.x)), spelt_most five (signed (q.y -ℤ p.y)))

pairs_length : (ps : List Pair) → length (bytes_of_all five (stored_pairs ps)) ≤ 10 * length ps
unfolding bytes_of_all stored_pairs
pairs_length [] = lit≤ tt
pairs_length (p ∷ ps) =
    omega (arith, further_length p ps, length-append (spelt five (signed p.x)) (spelt five (signed p.y) ++ bytes_of_all five (further_pairs p ps)), length-append (spelt five (signed p.y)) (bytes_of_all five (further_pairs p ps)), spelt_most five (signed p.x), spelt_most five (signed p.y))

-- a layer takes one byte, a k two at most, a pair ten at most; a ring has two pairs at least
rings_length : (rs : List Ring) → All (GoodRing limit) rs → pairs_in rs ≤ 4096 → 2 * length (bytes_of_all five (stored_rings rs)) ≤ 23 * pairs_in rs
unfolding bytes_of_all stored_rings pairs_in
rings_length [] g h = lit≤ tt
rings_length (r ∷ rs) g h =
    let l : length (spelt five r.layer) ≡ 1 = ap length (spelt_one 4 r.layer (omega (arith, g.0.low))) in
    let k = spelt_two 3 (length r.pairs) (omega arith) in
    omega (arith, l, k, g.0.two, pairs_length r.pairs, rings_length rs g.1 (omega arith), bytes_length five (stored_pairs r.pairs) (stored_rings rs), length-append (spelt five r.layer) (spelt five (length r.pairs) ++ bytes_of_all five (stored_pairs r.pairs ++ stored_rings rs)), length-append (spelt five (length r.pairs)) (bytes_of_all five (stored_pairs r.pairs ++ stored_rings rs)))

pub short_enough : (rs : List Ring) → GoodRings limit rs → length (bytes_of five rs) ≤ longest
short_enough rs g =
    let e : length (spelt five 1) ≡ 1 = ap length (spelt_one 4 1 (lit≤ tt)) in
    omega (arith, e, g.few, rings_length rs g.each g.few, length-append (spelt five 1) (bytes_of_all five (stored_rings rs)))
