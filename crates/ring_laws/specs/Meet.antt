-- Two beginnings of the same bytes, or of the same numbers: one goes on from the other, so the first faulty number is one. Assumes nothing.
--
--   Onward           from one beginning to another, number by number
--   Ahead b r        r goes on from b with a number that has no fault
--   meet             two beginnings of one list are the same, or one of them has a number ahead
--   due-file, due-list         the answer for a due number is one; no such answer where a number is ahead
--   ring_fault_one, list_fault_one   the first faulty number has one answer
--   ring_fault_none, list_fault_none   a good ring list has none
--   one_file, one_list   a good ring list is told by its file, and by its numbers
use Rattle.std.specs.Prelude.{◌≡◌, refl, false, ◌⊎◌, List, [], ◌∷◌, ◌++◌, ℕ, ◌≤◌, ℤ, ◌-ℤ◌, length}
use Rattle.std.proofs.Common.{sym, ap, ap₂, subst, ◌∙◌, inl, inr, append-nil, append_assoc, arith, length-append}
use Rattle.std.proofs.Math.Path.{subst⁻¹}
use Rattle.std.proofs.lemmas.List.{append_cancel_left}
use Rattle.meaning.specs.Numbers.{in_range}
use Rattle.meaning.specs.Answers.{Answer, given, First, ends_inside, bad_number, ring_out_of_range, neighbours_equal, too_many_pairs}
use Rattle.meaning.specs.Rings.{Ring, xs, ys, GoodRings, ring_numbers}
use Rattle.meaning.specs.MaskFile.{spelt, bytes_of, Stands}
use Rattle.meaning.specs.Faults.{Begun, at_layer, at_count, at_x, at_y, after, IsCount, TooMany, Beside, DueJudged, Begins, nothing, more, previous, Stores, MayEnd, IsCoordinate, FileSpells, ListSpells, Valued, Absent, Malformed, DueInFile, RingFault, DueInList, ListFault}
use Rattle.basic_laws.specs.Tables.{Single, single_given, one_answer}
use Rattle.ring_laws.specs.Groups.{number, front, clash, front_number, front_cut, front_bad, one_spelling, spelt_some}
use Rattle.ring_laws.specs.Differences.{signed_one, difference_inj}
use Rattle.ring_laws.specs.Beginnings.{Fine}
use Rattle.ring_laws.specs.Forms.{Holds, file_reads, list_reads}

pub data Onward {A : Type 0} (L : ℕ) (S : Begun → ℤ → List A → Type 0) : Begun → Begun → List A → Type 0 where
  here : {b : Begun} → Onward L S b b []
  step : {b c : Begun} {m : List A} (z : ℤ) (w : List A) → S b z w → Fine L b z → Onward L S (after b z) c m → Onward L S b c (w ++ m)

pub record Ahead {A : Type 0} (L : ℕ) (S : Begun → ℤ → List A → Type 0) (b : Begun) (r : List A) : Type 0 where
  pub z : ℤ
  pub w : List A
  pub rest : List A
  pub spells : S b z w
  pub fine : Fine L b z
  pub is : r ≡ w ++ rest

module _ {A : Type 0} (L : ℕ) (S : Begun → ℤ → List A → Type 0) where
  onward_more : {b c : Begun} {m : List A} (z : ℤ) (w : List A) → Onward L S b c m → S c z w → Fine L c z → Onward L S b (after c z) (m ++ w)
  onward_more {b} z w here s f = subst (Onward L S b (after b z)) (append-nil w) (step z w s f here)
  onward_more {b} {c} z w (step {m = m} y v t g o) s f =
      subst⁻¹ (Onward L S b (after c z)) (append_assoc v m w) (step y v t g (onward_more z w o s f))

  pub from_start : {start : List A} {b : Begun} {l : List A} → Begins L S start b l → (m : List A) × (l ≡ start ++ m) × Onward L S (at_layer []) b m
  from_start {start} nothing = ([], sym (append-nil start), here)
  from_start {start} (more {b = b} z w g s f) =
      let r = from_start g in
      (r.0 ++ w, ap (λ (l : List A). l ++ w) r.1 ∙ append_assoc start r.0 w, onward_more z w r.2 s f)

  -- no spelt number begins another
  abbrev pub Apart : Type 0
  Apart = (b : Begun) (y z : ℤ) (v w m n : List A) → S b y v → S b z w → v ++ m ≡ w ++ n → (y ≡ z) × (v ≡ w) × (m ≡ n)

  -- two beginnings b and c of one list, with r and s left of it
  abbrev Met : Begun → Begun → List A → List A → List A → List A → Type 0
  Met b c m n r s = ((b ≡ c) × (m ≡ n) × (r ≡ s)) ⊎ (Ahead L S b r ⊎ Ahead L S c s)

  meet_on : Apart → {a b c : Begun} {m n : List A} (r s : List A) → Onward L S a b m → Onward L S a c n → m ++ r ≡ n ++ s → Met b c m n r s
  meet_on ap' r s here here e = inl (refl, refl, e)
  meet_on ap' r s here (step {m = n} z w t f o) e = inr (inl (record { z = z; w = w; rest = n ++ s; spells = t; fine = f; is = e ∙ append_assoc w n s }))
  meet_on ap' r s (step {m = m} y v t f o) here e = inr (inr (record { z = y; w = v; rest = m ++ r; spells = t; fine = f; is = sym e ∙ append_assoc v m r }))
  meet_on ap' {a} {b} {c} r s (step {m = m} y v t f o) (step {m = n} z w u g q) e =
      let k = ap' a y z v w (m ++ r) (n ++ s) t u (sym (append_assoc v m r) ∙ e ∙ append_assoc w n s) in
      longer k.1 (meet_on ap' r s o (subst⁻¹ (λ (x : ℤ). Onward L S (after a x) c n) k.0 q) k.2)
    where
      longer : v ≡ w → Met b c m n r s → Met b c (v ++ m) (w ++ n) r s
      longer h (inl i) = inl (i.0, ap₂ (λ (p q : List A). p ++ q) h i.1, i.2)
      longer h (inr i) = inr i

  pub meet : Apart → {start : List A} {b c : Begun} {l k : List A} (r s : List A) → Begins L S start b l → Begins L S start c k → l ++ r ≡ k ++ s → Met b c l k r s
  meet ap' {start} {b} {c} {l} {k} r s g h e =
      let i = from_start g in
      let j = from_start h in
      let q : i.0 ++ r ≡ j.0 ++ s = append_cancel_left start (i.0 ++ r) (j.0 ++ s) (sym (append_assoc start i.0 r) ∙ ap (λ (m : List A). m ++ r) (sym i.1) ∙ e ∙ ap (λ (m : List A). m ++ s) j.1 ∙ append_assoc start j.0 s) in
      whole i.1 j.1 (meet_on ap' r s i.2 j.2 q)
    where
      whole : {m n : List A} → l ≡ start ++ m → k ≡ start ++ n → Met b c m n r s → Met b c l k r s
      whole p q (inl x) = inl (x.0, p ∙ ap (λ (y : List A). start ++ y) x.1 ∙ sym q, x.2)
      whole p q (inr x) = inr x

-- ---- the table of a due number

two_rows : (F : Type 0) (a : Answer) (H : Type 0) (b : Answer) → Single (First (given F a ∷ []) (given H b))
two_rows F a H b = one_answer (given F a ∷ []) (given H b) (single_given F a, tt) (single_given H b)

judged_single : (L : ℕ) (b : Begun) (z : ℤ) (p : ℕ) → Single (DueJudged L b z p)
judged_single L (at_layer rs) z p = single_given _ _
judged_single L (at_count rs l) z p = two_rows (IsCount z → ⊥) (ring_out_of_range p) (TooMany rs z) (too_many_pairs p)
judged_single L (at_x rs l k ps) z p = two_rows (in_range L z ≡ false) (ring_out_of_range p) (Beside (xs ps) k z) (neighbours_equal p)
judged_single L (at_y rs l k ps x) z p = two_rows (in_range L z ≡ false) (ring_out_of_range p) (Beside (ys ps) k z) (neighbours_equal p)

pub means_one : (b : Begun) (v : ℕ) (y z : ℤ) → Stores b v y → Stores b v z → y ≡ z
means_one (at_layer rs) v y z p q = p ∙ sym q
means_one (at_count rs l) v y z p q = p ∙ sym q
means_one (at_x rs l k ps) v y z p q = difference_inj y z (previous (xs ps)) (sym p ∙ q)
means_one (at_y rs l k ps x) v y z p q = difference_inj y z (previous (ys ps)) (sym p ∙ q)

not_one : (b : Begun) (z : ℤ) → IsCoordinate b → Stores b 1 z → ⊥
not_one (at_layer rs) z i m = i
not_one (at_count rs l) z i m = i
not_one (at_x rs l k ps) z i m = signed_one (z -ℤ previous (xs ps)) (sym m)
not_one (at_y rs l k ps x) z i m = signed_one (z -ℤ previous (ys ps)) (sym m)

module _ (G L : ℕ) (o : 1 ≤ G) where
  pub stands_front : {v : ℕ} {bs : List ℕ} → Stands G v bs → front G bs ≡ number v (length (spelt G v))
  stands_front {v} s = ap (front G) s.is ∙ front_number G v s.rest o s.fits

  pub stands_one : {v w : ℕ} {bs : List ℕ} → Stands G v bs → Stands G w bs → v ≡ w
  stands_one {v} {w} s t =
      let e : number v (length (spelt G v)) ≡ number w (length (spelt G w)) = sym (stands_front s) ∙ stands_front t in
      cc

  pub due_file_one : (b : Begun) (bs : List ℕ) (p len : ℕ) → Single (DueInFile G L b bs p len)
  due_file_one b bs p len =
      one_answer (given (Absent G b bs) (ends_inside len) ∷ given (Malformed G b bs) (bad_number p) ∷ []) (Valued G L b bs p)
      (single_given (Absent G b bs) (ends_inside len), (single_given (Malformed G b bs) (bad_number p), tt)) valued
    where
      valued : Single (Valued G L b bs p)
      valued r s x y =
          let e : x.number ≡ y.number = stands_one x.stands y.stands in
          let k : x.z ≡ y.z = means_one b y.number x.z y.z (subst (λ (v : ℕ). Stores b v x.z) e x.means) y.means in
          judged_single L b y.z p r s (subst (λ (z : ℤ). DueJudged L b z p r) k x.judged) y.judged

  -- what stands at the front, where a number is ahead
  ahead_front : (b : Begun) (bs : List ℕ) (a : Ahead L (FileSpells G) b bs) → front G bs ≡ number a.spells.0 (length (spelt G a.spells.0))
  ahead_front b bs a =
      ap (front G) (a.is ∙ ap (λ (w : List ℕ). w ++ a.rest) a.spells.3) ∙ front_number G a.spells.0 a.rest o a.spells.2

  pub due_file_ahead : (b : Begun) (bs : List ℕ) (p len : ℕ) (r : Answer) → DueInFile G L b bs p len r → Ahead L (FileSpells G) b bs → ⊥
  due_file_ahead b bs p len r (inl c) a = clash (cc (front_cut G bs c.0.0, ahead_front b bs a))
  due_file_ahead b bs p len r (inr (n, inl (inl t, e))) a = clash (cc (front_bad G bs (inl t), ahead_front b bs a))
  due_file_ahead b bs p len r (inr (n, inl (inr (inl t), e))) a = clash (cc (front_bad G bs (inr t), ahead_front b bs a))
  due_file_ahead b bs p len r (inr (n, inl (inr (inr t), e))) a =
      let q : number 1 (length (spelt G 1)) ≡ number a.spells.0 (length (spelt G a.spells.0)) = sym (stands_front t.1) ∙ ahead_front b bs a in
      let k : a.spells.0 ≡ 1 = cc in
      not_one b a.z t.0 (subst (λ (v : ℕ). Stores b v a.z) k a.spells.1)
  due_file_ahead b bs p len r (inr (n, inr (m, x))) a =
      let q : number x.number (length (spelt G x.number)) ≡ number a.spells.0 (length (spelt G a.spells.0)) = sym (stands_front x.stands) ∙ ahead_front b bs a in
      let e : x.number ≡ a.spells.0 = cc in
      let k : x.z ≡ a.z = means_one b a.spells.0 x.z a.z (subst (λ (v : ℕ). Stores b v x.z) e x.means) a.spells.1 in
      a.fine p r (subst (λ (z : ℤ). DueJudged L b z p r) k x.judged)

  pub file_apart : Apart L (FileSpells G)
  file_apart b y z v w m n s t e =
      let u : spelt G s.0 ++ m ≡ spelt G t.0 ++ n = ap (λ (l : List ℕ). l ++ m) (sym s.3) ∙ e ∙ ap (λ (l : List ℕ). l ++ n) t.3 in
      let k = one_spelling G s.0 t.0 m n o s.2 t.2 u in
      (means_one b t.0 y z (subst (λ (x : ℕ). Stores b x y) k.0 s.1) t.1, s.3 ∙ ap (spelt G) k.0 ∙ sym t.3, k.1)

  pub ring_fault_one : (f : List ℕ) → Single (RingFault G L f)
  ring_fault_one f r s x y = go (meet L (FileSpells G) file_apart x.rest y.rest x.begins y.begins (sym x.is ∙ y.is))
    where
      go : ((x.begun ≡ y.begun) × (x.front ≡ y.front) × (x.rest ≡ y.rest)) ⊎ (Ahead L (FileSpells G) x.begun x.rest ⊎ Ahead L (FileSpells G) y.begun y.rest) → r ≡ s
      go (inl e) =
          due_file_one y.begun y.rest (length y.front) (length f) r s
          (rw (e.0, e.1, e.2) at x.due) y.due
      go (inr (inl a)) = absurd (due_file_ahead x.begun x.rest (length x.front) (length f) r x.due a)
      go (inr (inr a)) = absurd (due_file_ahead y.begun y.rest (length y.front) (length f) s y.due a)

  -- nothing is due at the end, after whole rings
  end_file : (rs : List Ring) (p len : ℕ) (a : Answer) → DueInFile G L (at_layer rs) [] p len a → ⊥
  end_file rs p len a (inl c) = c.0.1 tt refl
  end_file rs p len a (inr (n, inl (inl t, e))) = clash (cc (front_bad G [] (inl t), front_cut G [] (record { continued = tt; short = o })))
  end_file rs p len a (inr (n, inl (inr (inl t), e))) = clash (cc (front_bad G [] (inr t), front_cut G [] (record { continued = tt; short = o })))
  end_file rs p len a (inr (n, inl (inr (inr t), e))) = t.0
  end_file rs p len a (inr (n, inr (m, x))) = clash (cc (stands_front x.stands, front_cut G [] (record { continued = tt; short = o })))

  no_more : (b : Begun) → Ahead L (FileSpells G) b [] → ⊥
  no_more b a = omega (arith, ap length a.is, length-append a.w a.rest, ap length a.spells.3, spelt_some G a.spells.0 o)

  pub ring_fault_none : Holds G L → (rs : List Ring) → GoodRings L rs → (a : Answer) → RingFault G L (bytes_of G rs) a → ⊥
  ring_fault_none h rs g a x = go (meet L (FileSpells G) file_apart x.rest [] x.begins (file_reads G L h rs g) (sym x.is ∙ sym (append-nil (bytes_of G rs))))
    where
      go : ((x.begun ≡ at_layer rs) × (x.front ≡ bytes_of G rs) × (x.rest ≡ [])) ⊎ (Ahead L (FileSpells G) x.begun x.rest ⊎ Ahead L (FileSpells G) (at_layer rs) []) → ⊥
      go (inl e) = end_file rs (length x.front) (length (bytes_of G rs)) a (rw (e.0, e.2) at x.due)
      go (inr (inl q)) = due_file_ahead x.begun x.rest (length x.front) (length (bytes_of G rs)) a x.due q
      go (inr (inr q)) = no_more (at_layer rs) q

  pub one_file : Holds G L → (rs qs : List Ring) → GoodRings L rs → GoodRings L qs → bytes_of G rs ≡ bytes_of G qs → rs ≡ qs
  one_file h rs qs g k e = go (meet L (FileSpells G) file_apart [] [] (file_reads G L h rs g) (file_reads G L h qs k) (ap (λ (l : List ℕ). l ++ []) e))
    where
      go : ((at_layer rs ≡ at_layer qs) × (bytes_of G rs ≡ bytes_of G qs) × (◌≡◌ {A = List ℕ} [] [])) ⊎ (Ahead L (FileSpells G) (at_layer rs) [] ⊎ Ahead L (FileSpells G) (at_layer qs) []) → rs ≡ qs
      go (inl x) = let y = x.0 in cc
      go (inr (inl a)) = absurd (no_more (at_layer rs) a)
      go (inr (inr a)) = absurd (no_more (at_layer qs) a)

-- ---- ring lists

module _ (L : ℕ) where
  pub list_apart : Apart L ListSpells
  list_apart b y z v w m n s t e =
      let u : y ∷ m ≡ z ∷ n = ap (λ (l : List ℤ). l ++ m) (sym s) ∙ e ∙ ap (λ (l : List ℤ). l ++ n) t in
      let k : y ≡ z = cc in
      (k, s ∙ ap (λ (x : ℤ). x ∷ []) k ∙ sym t, cc)

  pub due_list_one : (b : Begun) (zs : List ℤ) (p len : ℕ) → Single (DueInList L b zs p len)
  due_list_one b zs p len =
      one_answer (given ((zs ≡ []) × (MayEnd b → ⊥)) (ends_inside len) ∷ []) (λ a. (z : ℤ) × (rest : List ℤ) × (zs ≡ z ∷ rest) × DueJudged L b z p a)
      (single_given ((zs ≡ []) × (MayEnd b → ⊥)) (ends_inside len), tt) (λ r s x y. judged x y)
    where
      judged : {r s : Answer} → (z : ℤ) × (rest : List ℤ) × (zs ≡ z ∷ rest) × DueJudged L b z p r → (z : ℤ) × (rest : List ℤ) × (zs ≡ z ∷ rest) × DueJudged L b z p s → r ≡ s
      judged {r} {s} x y =
          let u : x.0 ∷ x.1 ≡ y.0 ∷ y.1 = sym x.2 ∙ y.2 in
          let k : x.0 ≡ y.0 = cc in
          judged_single L b y.0 p r s (subst (λ (z : ℤ). DueJudged L b z p r) k x.3) y.3

  due_list_ahead : (b : Begun) (zs : List ℤ) (p len : ℕ) (r : Answer) → DueInList L b zs p len r → Ahead L ListSpells b zs → ⊥
  due_list_ahead b zs p len r (inl c) a =
      let u : [] ≡ a.z ∷ a.rest = sym c.0.0 ∙ a.is ∙ ap (λ (l : List ℤ). l ++ a.rest) a.spells in
      clash (cc)
  due_list_ahead b zs p len r (inr (n, x)) a =
      let u : x.0 ∷ x.1 ≡ a.z ∷ a.rest = sym x.2 ∙ a.is ∙ ap (λ (l : List ℤ). l ++ a.rest) a.spells in
      let k : x.0 ≡ a.z = cc in
      a.fine p r (subst (λ (z : ℤ). DueJudged L b z p r) k x.3)

  pub list_fault_one : (ns : List ℤ) → Single (ListFault L ns)
  list_fault_one ns r s x y = go (meet L ListSpells list_apart x.rest y.rest x.begins y.begins (sym x.is ∙ y.is))
    where
      go : ((x.begun ≡ y.begun) × (x.front ≡ y.front) × (x.rest ≡ y.rest)) ⊎ (Ahead L ListSpells x.begun x.rest ⊎ Ahead L ListSpells y.begun y.rest) → r ≡ s
      go (inl e) =
          due_list_one y.begun y.rest (length y.front) (length ns) r s
          (rw (e.0, e.1, e.2) at x.due) y.due
      go (inr (inl a)) = absurd (due_list_ahead x.begun x.rest (length x.front) (length ns) r x.due a)
      go (inr (inr a)) = absurd (due_list_ahead y.begun y.rest (length y.front) (length ns) s y.due a)

  end_list : (rs : List Ring) (p len : ℕ) (a : Answer) → DueInList L (at_layer rs) [] p len a → ⊥
  end_list rs p len a (inl c) = c.0.1 tt
  end_list rs p len a (inr (n, x)) = let u = x.2 in clash (cc)

  none_more : (b : Begun) → Ahead L ListSpells b [] → ⊥
  none_more b a =
      let u : [] ≡ a.z ∷ a.rest = a.is ∙ ap (λ (l : List ℤ). l ++ a.rest) a.spells in
      clash (cc)

  pub list_fault_none : (rs : List Ring) → GoodRings L rs → (a : Answer) → ListFault L (ring_numbers rs) a → ⊥
  list_fault_none rs g a x = go (meet L ListSpells list_apart x.rest [] x.begins (list_reads L rs g) (sym x.is ∙ sym (append-nil (ring_numbers rs))))
    where
      go : ((x.begun ≡ at_layer rs) × (x.front ≡ ring_numbers rs) × (x.rest ≡ [])) ⊎ (Ahead L ListSpells x.begun x.rest ⊎ Ahead L ListSpells (at_layer rs) []) → ⊥
      go (inl e) = end_list rs (length x.front) (length (ring_numbers rs)) a (rw (e.0, e.2) at x.due)
      go (inr (inl q)) = due_list_ahead x.begun x.rest (length x.front) (length (ring_numbers rs)) a x.due q
      go (inr (inr q)) = none_more (at_layer rs) q

  pub one_list : (rs qs : List Ring) → GoodRings L rs → GoodRings L qs → ring_numbers rs ≡ ring_numbers qs → rs ≡ qs
  one_list rs qs g k e = go (meet L ListSpells list_apart [] [] (list_reads L rs g) (list_reads L qs k) (ap (λ (l : List ℤ). l ++ []) e))
    where
      go : ((at_layer rs ≡ at_layer qs) × (ring_numbers rs ≡ ring_numbers qs) × (◌≡◌ {A = List ℤ} [] [])) ⊎ (Ahead L ListSpells (at_layer rs) [] ⊎ Ahead L ListSpells (at_layer qs) []) → rs ≡ qs
      go (inl x) = let y = x.0 in cc
      go (inr (inl a)) = absurd (none_more (at_layer rs) a)
      go (inr (inr a)) = absurd (none_more (at_layer qs) a)
