-- What a beginning with no faulty number is written as, in a file and in memory. Assumes nothing.
--
--   stored_begun b, numbers_begun b    the numbers of a beginning, as a file stores them and as they stand in memory
--   file_form, list_form             a beginning's bytes and numbers are these
--   spell_file, spell-list           the next number of a good beginning can be spelt
--   file_reads, list_reads           a good ring list's file, and its numbers, are beginnings with no faulty number
--   file_begins, list_begins         and the way back
use Rattle.std.specs.Prelude.{◌≡◌, refl, true, List, [], ◌∷◌, ◌++◌, ℕ, suc, ◌+◌, ◌*◌, ◌<◌, ℤ, pos, ◌-ℤ◌, length}
use Rattle.std.proofs.Common.{sym, ap, ap₂, subst, ◌∙◌, append-nil, append_assoc, arith, eq-eqb, ne_eqb, le-leb}
use Rattle.std.proofs.Math.Decide.{ℕ_discrete}
use Rattle.std.proofs.Math.IntN.{+ℤ_idr}
use Rattle.meaning.specs.Numbers.{in_range}
use Rattle.meaning.specs.Rings.{Pair, pair, Ring, ring, All, InRange, xs, ys, GoodRings, pair_numbers, ring_numbers}
use Rattle.meaning.specs.MaskFile.{spelt, most, signed, further_pairs, stored_pairs, stored_rings, bytes_of_all, bytes_of}
use Rattle.meaning.specs.Faults.{Begun, at_layer, at_count, at_x, at_y, after, Begins, nothing, more, previous_or, previous, Stores, FileSpells, ListSpells}
use Rattle.ring_laws.specs.Differences.{within_range, difference_size}
use Rattle.ring_laws.specs.Beginnings.{Fine, fine_layer, fine_count, fine_x, fine_y, count_few, Good, good_begins, length_snoc, reached}

-- ---- one ring more at the end of a list, one pair more at the end of a ring

numbers_snoc : (rs : List Ring) (r : Ring) → ring_numbers (rs ++ r ∷ []) ≡ ring_numbers rs ++ pos r.layer ∷ pos (length r.pairs) ∷ pair_numbers r.pairs
unfolding ring_numbers
numbers_snoc [] r = append-nil (pos r.layer ∷ pos (length r.pairs) ∷ pair_numbers r.pairs)
numbers_snoc (s ∷ rs) r =
    ap (λ (l : List ℤ). pos s.layer ∷ pos (length s.pairs) ∷ pair_numbers s.pairs ++ l) (numbers_snoc rs r)
    ∙ sym (append_assoc (pos s.layer ∷ pos (length s.pairs) ∷ pair_numbers s.pairs) (ring_numbers rs) (pos r.layer ∷ pos (length r.pairs) ∷ pair_numbers r.pairs))

pair_numbers_snoc : (ps : List Pair) (p : Pair) → pair_numbers (ps ++ p ∷ []) ≡ pair_numbers ps ++ p.x ∷ p.y ∷ []
unfolding pair_numbers
pair_numbers_snoc [] p = refl
pair_numbers_snoc (q ∷ ps) p = ap (λ (l : List ℤ). q.x ∷ q.y ∷ l) (pair_numbers_snoc ps p)

stored_snoc : (rs : List Ring) (r : Ring) → stored_rings (rs ++ r ∷ []) ≡ stored_rings rs ++ r.layer ∷ length r.pairs ∷ stored_pairs r.pairs
unfolding stored_rings
stored_snoc [] r = append-nil (r.layer ∷ length r.pairs ∷ stored_pairs r.pairs)
stored_snoc (s ∷ rs) r =
    ap (λ (l : List ℕ). s.layer ∷ length s.pairs ∷ stored_pairs s.pairs ++ l) (stored_snoc rs r)
    ∙ sym (append_assoc (s.layer ∷ length s.pairs ∷ stored_pairs s.pairs) (stored_rings rs) (r.layer ∷ length r.pairs ∷ stored_pairs r.pairs))

further_snoc : (ps : List Pair) (q p : Pair) → further_pairs q (ps ++ p ∷ []) ≡ further_pairs q ps ++ signed (p.x -ℤ previous_or q.x (xs ps)) ∷ signed (p.y -ℤ previous_or q.y (ys ps)) ∷ []
unfolding further_pairs
further_snoc [] q p = refl
further_snoc (r ∷ ps) q p = ap (λ (l : List ℕ). signed (r.x -ℤ q.x) ∷ signed (r.y -ℤ q.y) ∷ l) (further_snoc ps r p)

stored_pairs_snoc : (ps : List Pair) (p : Pair) → stored_pairs (ps ++ p ∷ []) ≡ stored_pairs ps ++ signed (p.x -ℤ previous (xs ps)) ∷ signed (p.y -ℤ previous (ys ps)) ∷ []
unfolding stored_pairs further_pairs
stored_pairs_snoc [] p = ap₂ (λ (a b : ℤ). signed a ∷ signed b ∷ []) (sym (+ℤ_idr p.x)) (sym (+ℤ_idr p.y))
stored_pairs_snoc (q ∷ ps) p = ap (λ (l : List ℕ). signed q.x ∷ signed q.y ∷ l) (further_snoc ps q p)

bytes_snoc : (G : ℕ) (vs : List ℕ) (v : ℕ) → bytes_of_all G (vs ++ v ∷ []) ≡ bytes_of_all G vs ++ spelt G v
unfolding bytes_of_all
bytes_snoc G [] v = append-nil (spelt G v)
bytes_snoc G (u ∷ vs) v = ap (λ (l : List ℕ). spelt G u ++ l) (bytes_snoc G vs v) ∙ sym (append_assoc (spelt G u) (bytes_of_all G vs) (spelt G v))

-- ---- a beginning's numbers

abbrev pub numbers_begun : Begun → List ℤ
numbers_begun (at_layer rs) = ring_numbers rs
numbers_begun (at_count rs l) = ring_numbers rs ++ pos l ∷ []
numbers_begun (at_x rs l k ps) = ring_numbers rs ++ pos l ∷ pos k ∷ pair_numbers ps
numbers_begun (at_y rs l k ps x) = ring_numbers rs ++ pos l ∷ pos k ∷ pair_numbers ps ++ x ∷ []

abbrev pub stored_begun : Begun → List ℕ
stored_begun (at_layer rs) = stored_rings rs
stored_begun (at_count rs l) = stored_rings rs ++ l ∷ []
stored_begun (at_x rs l k ps) = stored_rings rs ++ l ∷ k ∷ stored_pairs ps
stored_begun (at_y rs l k ps x) = stored_rings rs ++ l ∷ k ∷ stored_pairs ps ++ signed (x -ℤ previous (xs ps)) ∷ []

-- what is added at the end of two lists, one after the other
two_more : {A : Type 0} (a b c d : List A) → (a ++ b ++ c) ++ d ≡ a ++ (b ++ (c ++ d))
two_more a b c d = append_assoc (a ++ b) c d ∙ append_assoc a b (c ++ d)

numbers_after : (L : ℕ) (b : Begun) (z : ℤ) → Fine L b z → numbers_begun (after b z) ≡ numbers_begun b ++ z ∷ []
unfolding pair_numbers
numbers_after L (at_layer rs) z f = let i = fine_layer L rs z f in rw i.is
numbers_after L (at_count rs l) z f = let c = fine_count L rs l z f in rw c.0.is (sym (append_assoc (ring_numbers rs) (pos l ∷ []) (pos c.0.count ∷ [])))
numbers_after L (at_x rs l k ps) z f = refl
numbers_after L (at_y rs l k ps x) z f = go (ℕ_discrete (suc (length ps)) k)
  where
    all : ring_numbers rs ++ pos l ∷ pos k ∷ pair_numbers (ps ++ pair x z ∷ []) ≡ (ring_numbers rs ++ pos l ∷ pos k ∷ pair_numbers ps ++ x ∷ []) ++ z ∷ []
    all = ap (λ (m : List ℤ). ring_numbers rs ++ pos l ∷ pos k ∷ m) (pair_numbers_snoc ps (pair x z)) ∙ sym (two_more (ring_numbers rs) (pos l ∷ pos k ∷ pair_numbers ps) (x ∷ []) (z ∷ []))

    go : Dec (suc (length ps) ≡ k) → numbers_begun (after (at_y rs l k ps x) z) ≡ numbers_begun (at_y rs l k ps x) ++ z ∷ []
    go (yes e) =
        rw (eq-eqb (suc (length ps)) k e)
        (numbers_snoc rs (ring l (ps ++ pair x z ∷ []))
        ∙ ap (λ (n : ℕ). ring_numbers rs ++ pos l ∷ pos n ∷ pair_numbers (ps ++ pair x z ∷ [])) (length_snoc ps (pair x z) ∙ e)
        ∙ all)
    go (no e) = rw (ne_eqb (suc (length ps)) k e) all

stored_after : (L : ℕ) (b : Begun) (v : ℕ) (z : ℤ) → Fine L b z → Stores b v z → stored_begun (after b z) ≡ stored_begun b ++ v ∷ []
unfolding stored_pairs
stored_after L (at_layer rs) v z f m = rw m
stored_after L (at_count rs l) v z f m = rw m (sym (append_assoc (stored_rings rs) (l ∷ []) (v ∷ [])))
stored_after L (at_x rs l k ps) v z f m = rw m
stored_after L (at_y rs l k ps x) v z f m = rw m (go (ℕ_discrete (suc (length ps)) k))
  where
    dx : ℕ
    dx = signed (x -ℤ previous (xs ps))

    dy : ℕ
    dy = signed (z -ℤ previous (ys ps))

    all : stored_rings rs ++ l ∷ k ∷ stored_pairs (ps ++ pair x z ∷ []) ≡ (stored_rings rs ++ l ∷ k ∷ stored_pairs ps ++ dx ∷ []) ++ dy ∷ []
    all = ap (λ (m : List ℕ). stored_rings rs ++ l ∷ k ∷ m) (stored_pairs_snoc ps (pair x z)) ∙ sym (two_more (stored_rings rs) (l ∷ k ∷ stored_pairs ps) (dx ∷ []) (dy ∷ []))

    go : Dec (suc (length ps) ≡ k) → stored_begun (after (at_y rs l k ps x) z) ≡ stored_begun (at_y rs l k ps x) ++ dy ∷ []
    go (yes e) =
        rw (eq-eqb (suc (length ps)) k e)
        (stored_snoc rs (ring l (ps ++ pair x z ∷ []))
        ∙ ap (λ (n : ℕ). stored_rings rs ++ l ∷ n ∷ stored_pairs (ps ++ pair x z ∷ [])) (length_snoc ps (pair x z) ∙ e)
        ∙ all)
    go (no e) = rw (ne_eqb (suc (length ps)) k e) all

-- ---- the forms

pub list_form : {L : ℕ} {b : Begun} {l : List ℤ} → Begins L ListSpells [] b l → l ≡ numbers_begun b
unfolding ring_numbers
list_form nothing = refl
list_form {L = L} (more {b = b} z w g s f) = ap₂ (λ (l m : List ℤ). l ++ m) (list_form g) s ∙ sym (numbers_after L b z f)

pub file_form : (G : ℕ) {L : ℕ} {b : Begun} {l : List ℕ} → Begins L (FileSpells G) (spelt G 1) b l → l ≡ spelt G 1 ++ bytes_of_all G (stored_begun b)
unfolding stored_rings bytes_of_all
file_form G nothing = sym (append-nil (spelt G 1))
file_form G {L = L} (more {b = b} z w g s f) =
    ap₂ (λ (l m : List ℕ). l ++ m) (file_form G g) s.3
    ∙ append_assoc (spelt G 1) (bytes_of_all G (stored_begun b)) (spelt G s.0)
    ∙ ap (λ (l : List ℕ). spelt G 1 ++ l) (sym (bytes_snoc G (stored_begun b) s.0) ∙ ap (bytes_of_all G) (sym (stored_after L b s.0 z f s.1)))

-- ---- the next number can be spelt

pub previous_size : (L : ℕ) (a : ℤ) (zs : List ℤ) → in_range L a ≡ true → All (λ z. in_range L z ≡ true) zs → in_range L (previous_or a zs) ≡ true
previous_size L a [] h e = h
previous_size L a (z ∷ zs) h e = previous_size L z zs e.0 e.1

pub range_xs : (L : ℕ) (ps : List Pair) → All (InRange L) ps → All (λ z. in_range L z ≡ true) (xs ps)
range_xs L [] e = tt
range_xs L (p ∷ ps) e = (e.0.0, range_xs L ps e.1)

pub range_ys : (L : ℕ) (ps : List Pair) → All (InRange L) ps → All (λ z. in_range L z ≡ true) (ys ps)
range_ys L [] e = tt
range_ys L (p ∷ ps) e = (e.0.1, range_ys L ps e.1)

-- G groups hold every number of a file with coordinates from -L to L
abbrev pub Holds : ℕ → ℕ → Type 0
Holds G L = (4 * L + 1 < most G) × (4096 < most G)

module _ (G L : ℕ) (h : Holds G L) where
  pub stored_fits : (zs : List ℤ) (z : ℤ) → in_range L z ≡ true → All (λ y. in_range L y ≡ true) zs → signed (z -ℤ previous zs) < most G
  stored_fits zs z i e =
      omega (arith, h.0, difference_size L z (previous zs) (within_range L z i) (within_range L (previous zs) (previous_size L (pos 0) zs (le-leb 0 L (omega arith)) e)))

  pub spell_file : (b : Begun) (z : ℤ) → Good L b → Fine L b z → (w : List ℕ) × FileSpells G b z w
  spell_file (at_layer rs) z g f = let i = fine_layer L rs z f in (spelt G i.layer, (i.layer, i.is, omega (arith, h.1, i.low), refl))
  spell_file (at_count rs l) z g f =
      let c = (fine_count L rs l z f).0 in
      (spelt G c.count, (c.count, c.is, omega (arith, h.1, count_few L rs l c.count (subst (Fine L (at_count rs l)) c.is f)), refl))
  spell_file (at_x rs l k ps) z g f =
      let v = signed (z -ℤ previous (xs ps)) in (spelt G v, (v, refl, stored_fits (xs ps) z (fine_x L rs l k ps z f).0 (range_xs L ps g.range), refl))
  spell_file (at_y rs l k ps x) z g f =
      let v = signed (z -ℤ previous (ys ps)) in (spelt G v, (v, refl, stored_fits (ys ps) z (fine_y L rs l k ps x z f).0 (range_ys L ps g.0.range), refl))

  -- ---- accepted exactly

  pub file_reads : (rs : List Ring) → GoodRings L rs → Begins L (FileSpells G) (spelt G 1) (at_layer rs) (bytes_of G rs)
  file_reads rs g =
      let r = reached L (FileSpells G) (spelt G 1) spell_file rs g in
      subst (Begins L (FileSpells G) (spelt G 1) (at_layer rs)) (file_form G r.1) r.1

pub file_begins : (G L : ℕ) (rs : List Ring) (l : List ℕ) → Begins L (FileSpells G) (spelt G 1) (at_layer rs) l → GoodRings L rs × (l ≡ bytes_of G rs)
file_begins G L rs l g = (good_begins g, file_form G g)

pub list_reads : (L : ℕ) (rs : List Ring) → GoodRings L rs → Begins L ListSpells [] (at_layer rs) (ring_numbers rs)
list_reads L rs g =
    let r = reached L ListSpells [] (λ b z h f. (z ∷ [], refl)) rs g in
    subst (Begins L ListSpells [] (at_layer rs)) (list_form r.1) r.1

pub list_begins : (L : ℕ) (rs : List Ring) (l : List ℤ) → Begins L ListSpells [] (at_layer rs) l → GoodRings L rs × (l ≡ ring_numbers rs)
list_begins L rs l g = (good_begins g, list_form g)
