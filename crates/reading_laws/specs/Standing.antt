-- The state after what has been read: what the code's tests say of the due number is what the paper says, and the next state is that after it. Over
-- any limit below 2^31. Assumes nothing.
--
--   outside_key      out of range, as the code tests it
--   meets_beside     equal to a cyclic neighbour, as the code tests it
--   verdict          the code's fault of a due number is its answer in the paper's table, and None where it has none
--   negative         a layer or a k below 0
--   next_state       the next state
--   not_end          where a ring list may end, the code lets it
--   sane, keyed_most   bounds of a state, and of a due number with no fault
use Rattle.std.specs.Prelude.{◌≡◌, refl, Option, Some, None, Bool, true, false, not, ◌≢◌, List, [], ◌∷◌, ◌++◌, ltb, ℤ, pos, negsuc, length}
use Rattle.std.proofs.Common.{sym, ap, subst, ◌∙◌, arith, lit≤, lt-ltb, le-ltb, le-leb, eq-eqb, ne_eqb}
use Rattle.std.proofs.Math.Path.{ap₂}
use Rattle.std.proofs.Math.Bool.{true≢false}
use Rattle.std.proofs.lemmas.Bool.{false≢true, lt-leb}
use Rattle.std.proofs.Math.Logic.{inl, inr}
use Prim.Native.Nat.{ℕ, suc, ◌+◌, ◌-◌, ◌≤◌, ◌<◌}
use Rattle.std.proofs.Math.Decide.{dec_le, ℕ_discrete}
use Rattle.std.specs.Int.Signed.{mag}
use Rattle.basic_laws.specs.Signed.{key_of, key_inj}
use Rattle.basic_laws.specs.Lists.{map_append}
use Rattle.meaning.specs.Numbers.{pick, limit, in_range}
use Rattle.meaning.specs.Answers.{Answer, ring_out_of_range}
use Rattle.meaning.specs.Rings.{Pair, pair, Ring, ring, All, xs, ys, pairs_in}
use Rattle.meaning.specs.Faults.{Begun, at_layer, at_count, at_x, at_y, after, Beside, DueJudged, previous_or, previous, MayEnd}
use Rattle.ring_laws.specs.Groups.{clash}
use Rattle.ring_laws.specs.Differences.{pos_inj, within_range}
use Rattle.ring_laws.specs.Neighbours.{previous_from}
use Rattle.ring_laws.specs.Beginnings.{Fine, FineAt, fine_layer, fine_count, count_few, fine_x, fine_y, layer_fine, count_fine, x_fine, y_fine, Good, pairs_snoc, length_snoc, length_xs, length_ys}
use Rattle.ring_laws.specs.Forms.{range_xs, range_ys, previous_size}
use Rattle.answers.specs.Told.{answer_of}
use Rattle.answers.specs.declared.Refusal.{Refusal}
use Rattle.answers.specs.declared.Refusal.TheVariants.{RingOutOfRange, NeighboursEqual, TooManyPairs}
use Rattle.rings.specs.State.{greatest, start, outside, meets, coordinate_fault, fault_of, first_of, next_by, next_of, Sane, may_end}
use Rattle.reading_laws.specs.StateOf.{is_none, first_or, state_of, keyed}

-- ---- range

pub mag_below : (L : ℕ) (z : ℤ) → L < 2147483648 → in_range L z ≡ true → mag z < 2147483648
mag_below L (pos n) h e = omega (arith, within_range L (pos n) e)
mag_below L (negsuc n) h e = omega (arith, within_range L (negsuc n) e)

pub outside_key : (L : ℕ) (z : ℤ) → L < 2147483648 → outside L (key_of z) ≡ not (in_range L z)
outside_key L (pos n) h = go (dec_le n L)
  where
    go : Dec (n ≤ L) → outside L (key_of (pos n)) ≡ not (in_range L (pos n))
    go (yes u) = rw (le-ltb (n + 2147483648) (2147483648 - L) (omega arith), le-ltb (2147483648 + L) (n + 2147483648) (omega arith), le-leb n L u)
    go (no u) = rw (le-ltb (n + 2147483648) (2147483648 - L) (omega arith), lt-ltb (2147483648 + L) (n + 2147483648) (omega arith), lt-leb n L (omega arith))
outside_key L (negsuc n) h = go (dec_le (suc n) L)
  where
    go : Dec (suc n ≤ L) → outside L (key_of (negsuc n)) ≡ not (in_range L (negsuc n))
    go (yes u) = rw (le-ltb (2147483648 - suc n) (2147483648 - L) (omega arith), le-ltb (2147483648 + L) (2147483648 - suc n) (omega arith), le-leb (suc n) L u)
    go (no u) = rw (lt-ltb (2147483648 - suc n) (2147483648 - L) (omega arith), lt-leb (suc n) L (omega arith))

-- ---- neighbours

-- a list that is not empty is its last element after the others
last_split : (a : ℤ) (l : List ℤ) → (m : List ℤ) × (a ∷ l ≡ m ++ previous_or a l ∷ [])
last_split a [] = ([], refl)
last_split a (b ∷ l) = let r = last_split b l in (a ∷ r.0, ap (λ k. a ∷ k) r.1)

split_last : (a : ℤ) (l m : List ℤ) (z : ℤ) → a ∷ l ≡ m ++ z ∷ [] → previous_or a l ≡ z
split_last a l m z e = ap (previous_or (pos 0)) e ∙ previous_from (pos 0) m z

module _ (L : ℕ) (h : L < 2147483648) where
  key_same : (y z : ℤ) → in_range L y ≡ true → in_range L z ≡ true → key_of y ≡ key_of z → y ≡ z
  key_same y z i j e = key_inj y z (mag_below L y h i) (mag_below L z h j) e

  -- z, due after the coordinates zs of a ring of k pairs; d is any coordinate
  pub meets_beside : (zs : List ℤ) (k : ℕ) (z d : ℤ) → length zs < k → All (λ y. in_range L y ≡ true) zs → in_range L z ≡ true → (t : Bool) → meets (is_none zs) (k - suc (length zs)) (key_of z) (key_of (previous zs)) (key_of (first_or d zs)) ≡ t → (t ≡ true → Beside zs k z) × (t ≡ false → Beside zs k z → ⊥)
  meets_beside [] k z d s e i t q = (λ u. absurd (false≢true (q ∙ u)), λ u. none)
    where
      none : Beside [] k z → ⊥
      none (inl (([]), x)) = clash (cc)
      none (inl ((a ∷ m), x)) = clash (cc)
      none (inr (x, (m, y))) = clash (cc)
  meets_beside (a ∷ l) k z d s e i t q = go (ℕ_discrete (key_of z) (key_of (previous_or a l))) (ℕ_discrete (k - suc (suc (length l))) 0) (ℕ_discrete (key_of z) (key_of a))
    where
      last_in : in_range L (previous_or a l) ≡ true
      last_in = previous_size L a l e.0 e.1

      before : key_of z ≡ key_of (previous_or a l) → Beside (a ∷ l) k z
      before x = inl ((last_split a l).0, (last_split a l).1 ∙ ap (λ y. (last_split a l).0 ++ y ∷ []) (sym (key_same z (previous_or a l) i last_in x)))

      not_before : key_of z ≢ key_of (previous_or a l) → ((m : List ℤ) × (a ∷ l ≡ m ++ z ∷ [])) → ⊥
      not_before x m = x (ap key_of (sym (split_last a l m.0 z m.1)))

      apart : key_of z ≢ key_of (previous_or a l) → ((suc (suc (length l)) ≡ k) → key_of z ≢ key_of a) → Beside (a ∷ l) k z → ⊥
      apart x y (inl m) = not_before x m
      apart x y (inr m) = let w = m.1.1 in let v : a ≡ z = cc in y m.0 (ap key_of (sym v))

      go : Dec (key_of z ≡ key_of (previous_or a l)) → Dec (k - suc (suc (length l)) ≡ 0) → Dec (key_of z ≡ key_of a) → (t ≡ true → Beside (a ∷ l) k z) × (t ≡ false → Beside (a ∷ l) k z → ⊥)
      go (yes x) y w =
          let r : true ≡ t = rw (eq-eqb (key_of z) (key_of (previous_or a l)) x) at q in
          (λ u. before x, λ u. absurd (true≢false (r ∙ u)))
      go (no x) (yes y) (yes w) =
          let r : true ≡ t = rw (ne_eqb (key_of z) (key_of (previous_or a l)) x, eq-eqb (k - suc (suc (length l))) 0 y, eq-eqb (key_of z) (key_of a) w) at q in
          (λ u. inr (omega arith, (l, ap (λ c. c ∷ l) (sym (key_same z a i e.0 w)))), λ u. absurd (true≢false (r ∙ u)))
      go (no x) (yes y) (no w) =
          let r : false ≡ t = rw (ne_eqb (key_of z) (key_of (previous_or a l)) x, eq-eqb (k - suc (suc (length l))) 0 y, ne_eqb (key_of z) (key_of a) w) at q in
          (λ u. absurd (false≢true (r ∙ u)), λ u. apart x (λ v. w))
      go (no x) (no y) w =
          let r : false ≡ t = rw (ne_eqb (key_of z) (key_of (previous_or a l)) x, ne_eqb (k - suc (suc (length l))) 0 y) at q in
          (λ u. absurd (false≢true (r ∙ u)), λ u. apart x (λ v. absurd (y (omega arith))))

none_xs : (ps : List Pair) → is_none (xs ps) ≡ is_none ps
none_xs [] = refl
none_xs (p ∷ ps) = refl

none_ys : (ps : List Pair) → is_none (ys ps) ≡ is_none ps
none_ys [] = refl
none_ys (p ∷ ps) = refl

-- ---- the fault of the due number

-- r is the row of the paper's table for z, which takes its place p, or None where z has no fault
pub record Verdict (L : ℕ) (b : Begun) (z : ℤ) (p : ℕ) (r : Option (ℕ → Refusal)) : Type 0 where
  pub fine : r ≡ None → Fine L b z
  pub refused : (f : ℕ → Refusal) → r ≡ Some f → DueJudged L b z p (answer_of (f p))

-- a layer or a k that is not negative; any coordinate
abbrev pub Natural : Begun → ℤ → Type 0
Natural (at_layer rs) z = (n : ℕ) × (z ≡ pos n)
Natural (at_count rs l) z = (n : ℕ) × (z ≡ pos n)
Natural (at_x rs l k ps) z = Unit {0}
Natural (at_y rs l k ps x) z = Unit {0}

-- the row of a fault is known
same_row : (J : Answer → Type 0) (f g : ℕ → Refusal) (p : ℕ) → Some f ≡ Some g → J (answer_of (f p)) → J (answer_of (g p))
same_row J f g p e x = let i : f ≡ g = cc in subst (λ (h : ℕ → Refusal). J (answer_of (h p))) i x

verdict_layer : (L : ℕ) (rs : List Ring) (n p : ℕ) → Verdict L (at_layer rs) (pos n) p (pick (ltb 7 n) (Some RingOutOfRange) None)
verdict_layer L rs n p = go (dec_le n 7)
  where
    go : Dec (n ≤ 7) → Verdict L (at_layer rs) (pos n) p (pick (ltb 7 n) (Some RingOutOfRange) None)
    go (yes h) = rw (le-ltb 7 n h) (record { fine = λ e. layer_fine L rs n h; refused = λ f e. absurd (cc) })
    go (no h) =
        rw (lt-ltb 7 n (omega arith))
        (record {
          fine = λ e. absurd (cc);
          refused = λ f e. same_row (DueJudged L (at_layer rs) (pos n) p) RingOutOfRange f p e (λ i. h (omega (arith, i.low, pos_inj n i.layer i.is)), refl);
        })

verdict_count : (L : ℕ) (rs : List Ring) (l n p : ℕ) → pairs_in rs ≤ 4096 → Verdict L (at_count rs l) (pos n) p (pick (ltb n 2) (Some RingOutOfRange) (pick (ltb (4096 - pairs_in rs) n) (Some TooManyPairs) None))
verdict_count L rs l n p k = go (dec_le 2 n) (dec_le (pairs_in rs + n) 4096)
  where
    go : Dec (2 ≤ n) → Dec (pairs_in rs + n ≤ 4096) → Verdict L (at_count rs l) (pos n) p (pick (ltb n 2) (Some RingOutOfRange) (pick (ltb (4096 - pairs_in rs) n) (Some TooManyPairs) None))
    go (no h) w =
        rw (lt-ltb n 2 (omega arith))
        (record {
          fine = λ e. absurd (cc);
          refused = λ f e. same_row (DueJudged L (at_count rs l) (pos n) p) RingOutOfRange f p e (inl (λ i. h (omega (arith, i.two, pos_inj n i.count i.is)), refl));
        })
    go (yes h) (no w) =
        rw (le-ltb n 2 h, lt-ltb (4096 - pairs_in rs) n (omega arith))
        (record {
          fine = λ e. absurd (cc);
          refused = λ f e. same_row (DueJudged L (at_count rs l) (pos n) p) TooManyPairs f p e (inr (λ s i. i.0 (record { count = n; is = refl; two = h }), (record { count = n; is = refl; passes = omega arith }, refl)));
        })
    go (yes h) (yes w) = rw (le-ltb n 2 h, le-ltb (4096 - pairs_in rs) n (omega arith)) (record { fine = λ e. count_fine L rs l n h w; refused = λ f e. absurd (cc) })

module _ (L : ℕ) (h : L < 2147483648) where
  -- an x or a y: J is its table, and F says that it has no fault
  verdict_coordinate : (zs : List ℤ) (k : ℕ) (z d : ℤ) → length zs < k → All (λ y. in_range L y ≡ true) zs → (F : Type 0) (J : (ℕ → Refusal) → Type 0) → (FineAt L zs k z → F) → (in_range L z ≡ false → J RingOutOfRange) → (in_range L z ≡ true → Beside zs k z → J NeighboursEqual) → (r : Option (ℕ → Refusal)) → r ≡ coordinate_fault L (is_none zs) (k - suc (length zs)) (key_of z) (key_of (previous zs)) (key_of (first_or d zs)) → (r ≡ None → F) × ((f : ℕ → Refusal) → r ≡ Some f → J f)
  verdict_coordinate zs k z d s e F J fine j15 j16 r q = range (in_range L z) refl
    where
      m : Bool
      m = meets (is_none zs) (k - suc (length zs)) (key_of z) (key_of (previous zs)) (key_of (first_or d zs))

      row : (f g : ℕ → Refusal) → r ≡ Some f → r ≡ Some g → J f → J g
      row f g x y j = let w : Some f ≡ Some g = sym x ∙ y in let i : f ≡ g = cc in subst J i j

      near : (t : Bool) → m ≡ t → in_range L z ≡ true → r ≡ pick t (Some NeighboursEqual) None → (r ≡ None → F) × ((f : ℕ → Refusal) → r ≡ Some f → J f)
      near true x i w = (λ u. absurd (cc), λ f u. row NeighboursEqual f w u (j16 i ((meets_beside L h zs k z d s e i true x).0 refl)))
      near false x i w = (λ u. fine (i, (meets_beside L h zs k z d s e i false x).1 refl), λ f u. absurd (cc))

      range : (t : Bool) → in_range L z ≡ t → (r ≡ None → F) × ((f : ℕ → Refusal) → r ≡ Some f → J f)
      range false i =
          let w : r ≡ Some RingOutOfRange = q ∙ ap (λ (o : Bool). pick o (Some RingOutOfRange) (pick m (Some NeighboursEqual) None)) (outside_key L z h ∙ ap not i) in
          (λ u. absurd (cc), λ f u. row RingOutOfRange f w u (j15 i))
      range true i = near m refl i (q ∙ ap (λ (o : Bool). pick o (Some RingOutOfRange) (pick m (Some NeighboursEqual) None)) (outside_key L z h ∙ ap not i))

  pub verdict : (b : Begun) (z : ℤ) (p : ℕ) → Good L b → Natural b z → Verdict L b z p (fault_of L (state_of b) (keyed b z))
  unfolding fault_of
  verdict (at_layer rs) z p g (n, e) = rw e (verdict_layer L rs n p)
  verdict (at_count rs l) z p g (n, e) = rw e (verdict_count L rs l n p g.0.few)
  verdict (at_x rs l k ps) z p g u =
      let q = ap₂ (λ (t : Bool) (n : ℕ). coordinate_fault L t (k - suc n) (key_of z) (key_of (previous (xs ps))) (key_of (first_or (pos 0) (xs ps)))) (sym (none_xs ps)) (sym (length_xs ps)) in
      let v = verdict_coordinate (xs ps) k z (pos 0) (omega (arith, length_xs ps, g.short)) (range_xs L ps g.range) (Fine L (at_x rs l k ps) z) (λ f. DueJudged L (at_x rs l k ps) z p (answer_of (f p))) (x_fine L rs l k ps z) (λ i. inl (i, refl)) (λ i s. inr (λ a j. true≢false (sym i ∙ j.0), (s, refl))) (fault_of L (state_of (at_x rs l k ps)) (key_of z)) q in
      record { fine = v.0; refused = v.1 }
  verdict (at_y rs l k ps x) z p g u =
      let q = ap₂ (λ (t : Bool) (n : ℕ). coordinate_fault L t (k - suc n) (key_of z) (key_of (previous (ys ps))) (key_of (first_or (pos 0) (ys ps)))) (sym (none_ys ps)) (sym (length_ys ps)) in
      let v = verdict_coordinate (ys ps) k z (pos 0) (omega (arith, length_ys ps, g.0.short)) (range_ys L ps g.0.range) (Fine L (at_y rs l k ps x) z) (λ f. DueJudged L (at_y rs l k ps x) z p (answer_of (f p))) (y_fine L rs l k ps x z) (λ i. inl (i, refl)) (λ i s. inr (λ a j. true≢false (sym i ∙ j.0), (s, refl))) (fault_of L (state_of (at_y rs l k ps x)) (key_of z)) q in
      record { fine = v.0; refused = v.1 }

-- a layer or a k below 0
pub negative : (L : ℕ) (b : Begun) (n p : ℕ) → (Natural b (negsuc n) → ⊥) → DueJudged L b (negsuc n) p (ring_out_of_range p)
negative L (at_layer rs) n p h = (λ i. let e = i.is in clash (cc), refl)
negative L (at_count rs l) n p h = inl (λ i. let e = i.is in clash (cc), refl)
negative L (at_x rs l k ps) n p h = absurd (h tt)
negative L (at_y rs l k ps x) n p h = absurd (h tt)

-- ---- the next state

first_key : (zs : List ℤ) (t : Bool) (d z : ℤ) → t ≡ is_none zs → first_of t (key_of z) (key_of (first_or d zs)) ≡ key_of (first_or z zs)
first_key [] t d z e = rw e
first_key (a ∷ l) t d z e = rw e

first_snoc : (zs : List ℤ) (d z : ℤ) → first_or d (zs ++ z ∷ []) ≡ first_or z zs
first_snoc [] d z = refl
first_snoc (a ∷ l) d z = refl

none_snoc : {A : Type 0} (l : List A) (a : A) → is_none (l ++ a ∷ []) ≡ false
none_snoc [] a = refl
none_snoc (b ∷ l) a = refl

pub next_state : (L : ℕ) (b : Begun) (z : ℤ) → Good L b → Fine L b z → next_of (state_of b) (keyed b z) ≡ state_of (after b z)
unfolding next_of
next_state L (at_layer rs) z g f = refl
next_state L (at_count rs l) z g f = refl
next_state L (at_x rs l k ps) z g f = rw (first_key (xs ps) (is_none ps) (pos 0) z (sym (none_xs ps)))
next_state L (at_y rs l k ps x) z g f = go (ℕ_discrete (suc (length ps)) k)
  where
    go : Dec (suc (length ps) ≡ k) → next_by (state_of (at_y rs l k ps x)).due (state_of (at_y rs l k ps x)) (key_of z) ≡ state_of (after (at_y rs l k ps x) z)
    go (yes e) =
        rw (eq-eqb (k - suc (length ps)) 0 (omega arith), eq-eqb (suc (length ps)) k e)
        (ap start (omega (arith, pairs_snoc rs (ring l (ps ++ pair x z ∷ [])), length_snoc ps (pair x z))))
    go (no e) =
        let m : k - suc (length ps) - 1 ≡ k - suc (suc (length ps)) = omega arith in
        rw (ne_eqb (k - suc (length ps)) 0 (λ q. omega (arith, g.0.short)), ne_eqb (suc (length ps)) k e, map_append (λ q. q.x) ps (pair x z ∷ []), map_append (λ q. q.y) ps (pair x z ∷ []), previous_from (pos 0) (xs ps) x, previous_from (pos 0) (ys ps) z, first_snoc (xs ps) (pos 0) x, first_snoc (ys ps) (pos 0) z, none_snoc ps (pair x z), length_snoc ps (pair x z), first_key (ys ps) (is_none ps) (pos 0) z (sym (none_ys ps)), m)

-- ---- bounds

key_most : (L : ℕ) (z : ℤ) → L ≤ 1073741824 → in_range L z ≡ true → key_of z ≤ greatest
key_most L (pos n) h e = omega (arith, within_range L (pos n) e)
key_most L (negsuc n) h e = omega arith

pub first_size : (L : ℕ) (d : ℤ) (zs : List ℤ) → in_range L d ≡ true → All (λ z. in_range L z ≡ true) zs → in_range L (first_or d zs) ≡ true
first_size L d [] h e = h
first_size L d (a ∷ l) h e = e.0

pub zero_in : (L : ℕ) → in_range L (pos 0) ≡ true
zero_in L = le-leb 0 L (omega arith)

pub sane : (b : Begun) → Good limit b → Sane (state_of b)
sane (at_layer rs) g = record { layer = lit≤ tt; more = lit≤ tt; room = omega arith; px = lit≤ tt; py = lit≤ tt; fx = lit≤ tt }
sane (at_count rs l) g = record { layer = g.1; more = lit≤ tt; room = omega arith; px = lit≤ tt; py = lit≤ tt; fx = lit≤ tt }
sane (at_x rs l k ps) g =
    record {
      layer = g.low;
      more = omega (arith, g.few);
      room = omega arith;
      px = key_most limit (previous (xs ps)) (lit≤ tt) (previous_size limit (pos 0) (xs ps) (zero_in limit) (range_xs limit ps g.range));
      py = key_most limit (previous (ys ps)) (lit≤ tt) (previous_size limit (pos 0) (ys ps) (zero_in limit) (range_ys limit ps g.range));
      fx = key_most limit (first_or (pos 0) (xs ps)) (lit≤ tt) (first_size limit (pos 0) (xs ps) (zero_in limit) (range_xs limit ps g.range));
    }
sane (at_y rs l k ps x) g =
    record {
      layer = g.0.low;
      more = omega (arith, g.0.few);
      room = omega arith;
      px = key_most limit x (lit≤ tt) g.1.0;
      py = key_most limit (previous (ys ps)) (lit≤ tt) (previous_size limit (pos 0) (ys ps) (zero_in limit) (range_ys limit ps g.0.range));
      fx = key_most limit (first_or x (xs ps)) (lit≤ tt) (first_size limit x (xs ps) g.1.0 (range_xs limit ps g.0.range));
    }

pub keyed_most : (b : Begun) (z : ℤ) → Fine limit b z → keyed b z ≤ greatest
keyed_most (at_layer rs) z f = let i = fine_layer limit rs z f in rw i.is (omega (arith, i.low))
keyed_most (at_count rs l) z f = let i = (fine_count limit rs l z f).0 in rw i.is (omega (arith, count_few limit rs l i.count (subst (Fine limit (at_count rs l)) i.is f)))
keyed_most (at_x rs l k ps) z f = key_most limit z (lit≤ tt) (fine_x limit rs l k ps z f).0
keyed_most (at_y rs l k ps x) z f = key_most limit z (lit≤ tt) (fine_y limit rs l k ps x z f).0

-- ---- the end

pub not_end : (b : Begun) → MayEnd b → may_end (state_of b).due ≡ false → ⊥
not_end (at_layer rs) d t = true≢false t
not_end (at_count rs l) d t = d
not_end (at_x rs l k ps) d t = d
not_end (at_y rs l k ps x) d t = d
