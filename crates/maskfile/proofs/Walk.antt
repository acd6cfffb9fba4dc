-- The way of the reader through a file, number by number. Assumes nothing.
--
--   Reads ..        what has been read at a place, and what has been written
--   reads_begins    before the first ring
--   reads_sane, reads_key   what the code asks of the state and of a value
--   reads_on        one number further
--   reads_refused   a refusal on the way
--   reads_fine, reads_short   the end of the file
use mathlib.Core.Path.{◌≡◌, refl, sym, ap, ap₂, subst, subst⁻¹, ◌∙◌}
use mathlib.Core.Bool.{true, false, true≢false, false≢true}
use mathlib.Core.Logic.{◌⊎◌, inl, inr}
use mathlib.Core.List.{List, [], ◌∷◌, ◌++◌, append-nil, append_assoc}
use Prim.Native.Nat.{ℕ, ◌+◌, ◌≤◌, ◌<◌}
use native.Mathlib.Omega.{arith}
use lib.Dec.{lit≤}
use lib.Signed.{mag}
use lib.IntN.{ℤ}
use lib.ListN.{length, drop, set, length-append, length-drop, drop_of_length-le}
use lib.Seq.{sets, get_or-drop}
use Rattle.basic_laws.specs.Signed.{key_of, unkey_of, key_fits, unkey_key}
use Rattle.basic_laws.specs.Stores.{sets_snoc, left_over}
use Rattle.meaning.specs.Numbers.{limit}
use Rattle.std.specs.Prelude.{None, Err}
use Rattle.answers.specs.Told.{answer_of}
use Rattle.answers.specs.declared.Refusal.{Refusal}
use Rattle.answers.specs.declared.Refusal.TheVariants.{EndsInside, BadNumber}
use Rattle.meaning.specs.Rings.{pairs_in}
use Rattle.meaning.specs.MaskFile.{spelt, five, Stands, Cut, NotShortest, TooLong}
use Rattle.meaning.specs.Faults.{Begun, at_layer, at_count, at_x, at_y, after, Begins, nothing, more, FileSpells, ListSpells, IsCoordinate, DueJudged, Absent, Malformed, DueInFile, RingFault}
use Rattle.ring_laws.specs.Groups.{number, front, Bytes, Found, clash, number_front, cut_front, bad_front, front_cut, front_bad, front_bounds}
use Rattle.ring_laws.specs.Beginnings.{Fine, fine_x, fine_y, fine_layer, fine_count, count_few, Good, good_begins, length_snoc}
use Rattle.ring_laws.specs.Forms.{file_begins, list_begins}
use Rattle.ring_laws.specs.Meet.{stands_front}
use Rattle.numbers.specs.Reading.{Reading, Value}
use Rattle.rings.specs.State.{start, may_end, fault_of, next_of, Sane}
use Rattle.reading_laws.specs.StateOf.{state_of, keyed}
use Rattle.reading_laws.specs.OutcomeLaws.{refuses, refuses_read}
use Rattle.rings.specs.declared.State.{State}
use Rattle.reading_laws.specs.Standing.{Natural, verdict, next_state, sane, mag_below, not_end}
use Rattle.maskfile.specs.Due.{value_of, minus_zero, due_in_file, lifted_of}
use Rattle.maskfile.specs.Outcome.{RingsOutcome}
use Rattle.maskfile.proofs.Stored.{meant, meant_natural, meant_means, coordinate_due, value_keyed, Taken, taken, Left, absent, malformed, minus, faulty, left}

pub record Reads (f : List ℕ) (out₀ : List ℤ) (s : State) (at n : ℕ) (out : List ℤ) : Type 0 where
  pub begun : Begun
  pub front : List ℕ
  pub numbers : List ℤ
  pub state : s ≡ state_of begun
  pub file : Begins limit (FileSpells five) (spelt five 1) begun front
  pub list : Begins limit ListSpells [] begun numbers
  pub is : f ≡ front ++ drop at f
  pub place : at ≡ length front
  pub count : n ≡ length numbers
  pub wrote : out ≡ sets out₀ 0 numbers
  pub within : at ≤ length f
  pub few : n ≤ at

pub reads_begins : (f : List ℕ) (out : List ℤ) (from : ℕ) → from ≡ length (spelt five 1) → f ≡ spelt five 1 ++ drop from f → from ≤ length f → Reads f out (start 4096) from 0 out
unfolding pairs_in
reads_begins f out from e q h =
    record { begun = at_layer []; front = spelt five 1; numbers = []; state = refl; file = nothing; list = nothing; is = q; place = e; count = refl; wrote = refl; within = h; few = omega arith }

bytes_drop : (f : List ℕ) (at : ℕ) → Bytes f → Bytes (drop at f)
bytes_drop f at h i = rw (get_or-drop at f i 0) (h (at + i))

some : 1 ≤ five
some = lit≤ tt

-- a number with no fault is one of 32 bits
fine_mag : (b : Begun) (z : ℤ) → Fine limit b z → mag z < 2147483648
fine_mag (at_layer rs) z f = let i = fine_layer limit rs z f in rw i.is (omega (arith, i.low))
fine_mag (at_count rs l) z f = let i = (fine_count limit rs l z f).0 in rw i.is (omega (arith, count_few limit rs l i.count (subst (Fine limit (at_count rs l)) i.is f)))
fine_mag (at_x rs l k ps) z f = mag_below limit z (lit≤ tt) (fine_x limit rs l k ps z f).0
fine_mag (at_y rs l k ps x) z f = mag_below limit z (lit≤ tt) (fine_y limit rs l k ps x z f).0

keyed_fits : (b : Begun) (z : ℤ) → Natural b z → mag z < 2147483648 → keyed b z < 4294967296
keyed_fits (at_layer rs) z (n, e) h = rw e (omega (arith, subst (λ (x : ℤ). mag x < 2147483648) e h))
keyed_fits (at_count rs l) z (n, e) h = rw e (omega (arith, subst (λ (x : ℤ). mag x < 2147483648) e h))
keyed_fits (at_x rs l k ps) z u h = key_fits z h
keyed_fits (at_y rs l k ps x) z u h = key_fits z h

coordinate_minus : (b : Begun) → IsCoordinate b → minus_zero (state_of b).due 1 ≡ true
coordinate_minus (at_layer rs) i = absurd i
coordinate_minus (at_count rs l) i = absurd i
coordinate_minus (at_x rs l k ps) i = refl
coordinate_minus (at_y rs l k ps x) i = refl

lift : (b : Begun) (z : ℤ) → Natural b z → lifted_of (state_of b).due (keyed b z) ≡ key_of z
lift (at_layer rs) z (n, e) = rw e
lift (at_count rs l) z (n, e) = rw e
lift (at_x rs l k ps) z u = refl
lift (at_y rs l k ps x) z u = refl

module _ (f : List ℕ) (out₀ : List ℤ) (s : State) (at n : ℕ) (out : List ℤ) (w : Reads f out₀ s at n out) where
  good : Good limit w.begun
  good = good_begins w.file

  pub reads_sane : Sane s
  reads_sane = subst⁻¹ Sane w.state (sane w.begun good)

  -- ---- one number further

  module _ (r : Reading) (v next : ℕ) (e : r ≡ due_in_file (length f) s at (front five (drop at f))) (q : r ≡ Value v next) where
    got : Taken s at (front five (drop at f)) v next
    got = taken (length f) s at (front five (drop at f)) r v next e q

    z : ℤ
    z = meant w.begun got.stored

    plain : minus_zero (state_of w.begun).due got.stored ≡ false
    plain = subst (λ (t : State). minus_zero t.due got.stored ≡ false) w.state got.whole

    keyed_value : v ≡ keyed w.begun z
    unfolding z
    keyed_value = got.value ∙ ap (λ (t : State). value_of t got.stored) w.state ∙ value_keyed w.begun got.stored good plain

    pub reads_fault : fault_of limit s v ≡ None
    reads_fault = ap (fault_of limit s) got.value ∙ got.fine

    z_fine : Fine limit w.begun z
    unfolding z
    z_fine = (verdict limit (lit≤ tt) w.begun z 0 good (meant_natural w.begun got.stored)).fine (subst (λ (x : ℕ). fault_of limit (state_of w.begun) x ≡ None) keyed_value (subst (λ (t : State). fault_of limit t v ≡ None) w.state reads_fault))

    z_mag : mag z < 2147483648
    z_mag = fine_mag w.begun z z_fine

    lifted_key : lifted_of s.due v ≡ key_of z
    unfolding z
    lifted_key = ap₂ (λ (t : State) (x : ℕ). lifted_of t.due x) w.state keyed_value ∙ lift w.begun z (meant_natural w.begun got.stored)

    pub reads_key : (k : ℕ) → k ≡ lifted_of s.due v → k < 4294967296
    reads_key k x = rw (x, lifted_key) (key_fits z z_mag)

    pub reads_value : v < 4294967296
    unfolding z
    reads_value = rw keyed_value (keyed_fits w.begun z (meant_natural w.begun got.stored) z_mag)

    bounds : (1 ≤ got.count) × (got.count ≤ length (drop at f))
    bounds = (front_bounds five (drop at f) got.stored got.count got.front).1

    pub reads_further : (at < next) × (next ≤ length f)
    reads_further = omega (arith, got.place, bounds, length-drop at f, w.within)

    pub reads_on : (k m : ℕ) (after-out : List ℤ) → Bytes f → k ≡ lifted_of s.due v → m ≡ n + 1 → after-out ≡ set out n (unkey_of k) → Reads f out₀ (next_of s v) next m after-out
    unfolding z
    reads_on k m after-out h x y o =
        record {
          begun = after w.begun z;
          front = w.front ++ spelt five got.stored;
          numbers = w.numbers ++ z ∷ [];
          state = ap₂ next_of w.state keyed_value ∙ next_state limit w.begun z good z_fine;
          file = more z (spelt five got.stored) w.file (got.stored, meant_means w.begun got.stored plain, found.fits, refl) z_fine;
          list = more z (z ∷ []) w.list refl z_fine;
          is = w.is ∙ ap (λ (l : List ℕ). w.front ++ l) (found.is ∙ ap (λ (l : List ℕ). spelt five got.stored ++ l) (sym over)) ∙ sym (append_assoc w.front (spelt five got.stored) (drop next f));
          place = omega (arith, got.place, found.long, w.place, length-append w.front (spelt five got.stored));
          count = omega (arith, y, w.count, length_snoc w.numbers z);
          wrote = o ∙ ap₂ (λ (l : List ℤ) (c : ℤ). set l n c) w.wrote (ap unkey_of (x ∙ lifted_key) ∙ unkey_key z z_mag) ∙ sets_snoc w.numbers out₀ n z w.count;
          within = reads_further.1;
          few = omega (arith, y, w.few, reads_further.0);
        }
      where
        found : Found five (drop at f) got.stored got.count
        found = number_front five (drop at f) got.stored got.count (bytes_drop f at h) got.front

        over : drop next f ≡ found.rest
        over = left_over w.front f (spelt five got.stored) found.rest at next w.place w.is found.is (got.place ∙ ap (λ (c : ℕ). at + c) found.long)

  -- ---- a refusal

  module _ (r : Reading) (g : Refusal) (h : Bytes f) (lt : at < length f) (e : r ≡ due_in_file (length f) s at (front five (drop at f))) (q : r ≡ Err g) where
    due : DueInFile five limit w.begun (drop at f) (length w.front) (length f) (answer_of g)
    due = go (left (length f) s at (front five (drop at f)) r g e q)
      where
        due_as : (u : Refusal) → g ≡ u → DueInFile five limit w.begun (drop at f) (length w.front) (length f) (answer_of u) → DueInFile five limit w.begun (drop at f) (length w.front) (length f) (answer_of g)
        due_as u i = subst⁻¹ (λ (a : Refusal). DueInFile five limit w.begun (drop at f) (length w.front) (length f) (answer_of a)) i

        some_left : drop at f ≡ [] → ⊥
        some_left x = omega (arith, ap length x, length-drop at f)

        number_due : (v c : ℕ) → front five (drop at f) ≡ number v c → Stands five v (drop at f)
        number_due v c x = let g = number_front five (drop at f) v c (bytes_drop f at h) x in record { rest = g.rest; is = g.is; fits = g.fits }

        not_absent : (v c : ℕ) → front five (drop at f) ≡ number v c → Absent five w.begun (drop at f) → ⊥
        not_absent v c x y = clash (cc (x, front_cut five (drop at f) y.0))

        not_bad : (v c : ℕ) → front five (drop at f) ≡ number v c → TooLong five (drop at f) ⊎ NotShortest five (drop at f) → ⊥
        not_bad v c x y = clash (cc (x, front_bad five (drop at f) y))

        go : Left (length f) s at (front five (drop at f)) g → DueInFile five limit w.begun (drop at f) (length w.front) (length f) (answer_of g)
        go (absent x y) = rw y (inl ((cut_front five (drop at f) x, λ d z. some_left z), refl))
        go (malformed x y) =
            due_as (BadNumber (length w.front)) (y ∙ ap BadNumber w.place)
            (inr (λ a j. clash (cc (x, front_cut five (drop at f) j.0.0)), inl (either (bad_front five (drop at f) x), refl)))
          where
            either : TooLong five (drop at f) ⊎ NotShortest five (drop at f) → Malformed five w.begun (drop at f)
            either (inl t) = inl t
            either (inr t) = inr (inl t)
        go (minus v c x z y) =
            let d = coordinate_due w.begun v (subst (λ (t : State). minus_zero t.due v ≡ true) w.state z) in
            due_as (BadNumber (length w.front)) (y ∙ ap BadNumber w.place) (inr (λ a j. not_absent v c x j.0, inl (inr (inr (d.0, subst (λ (k : ℕ). Stands five k (drop at f)) d.1 (number_due v c x))), refl)))
        go (faulty v c x z k i y) =
            inr (λ a j. not_absent v c x j.0, inr (λ a j. not_malformed j.0, record { number = v; z = meant w.begun v; stands = number_due v c x; means = meant_means w.begun v here; judged = judged }))
          where
            here : minus_zero (state_of w.begun).due v ≡ false
            here = subst (λ (t : State). minus_zero t.due v ≡ false) w.state z

            fault_is : fault_of limit s (value_of s v) ≡ fault_of limit (state_of w.begun) (keyed w.begun (meant w.begun v))
            fault_is = ap (λ (t : State). fault_of limit t (value_of t v)) w.state ∙ ap (fault_of limit (state_of w.begun)) (value_keyed w.begun v good here)

            not_malformed : Malformed five w.begun (drop at f) → ⊥
            not_malformed (inl t) = not_bad v c x (inl t)
            not_malformed (inr (inl t)) = not_bad v c x (inr t)
            not_malformed (inr (inr t)) =
                let k : number 1 (length (spelt five 1)) ≡ number v c = sym (stands_front five limit some t.1) ∙ x in
                let i : v ≡ 1 = cc in
                true≢false (sym (coordinate_minus w.begun t.0) ∙ subst (λ (j : ℕ). minus_zero (state_of w.begun).due j ≡ false) i here)

            judged : DueJudged limit w.begun (meant w.begun v) (length w.front) (answer_of g)
            judged =
                subst⁻¹ (λ (a : Refusal). DueJudged limit w.begun (meant w.begun v) (length w.front) (answer_of a)) (y ∙ ap k w.place)
                ((verdict limit (lit≤ tt) w.begun (meant w.begun v) (length w.front) good (meant_natural w.begun v)).refused k (sym fault_is ∙ i))

    pub reads_refused : (after-out : List ℤ) → RingsOutcome f out₀ r after-out
    reads_refused after-out =
        inl (refuses_read answer_of (RingFault five limit f) r g q (record { begun = w.begun; front = w.front; rest = drop at f; is = w.is; begins = w.file; due = due }))

  -- ---- the end

  module _ (over : length f ≤ at) where
    nothing_left : drop at f ≡ []
    nothing_left = drop_of_length-le f over

    all : f ≡ w.front
    all = w.is ∙ ap (λ (l : List ℕ). w.front ++ l) nothing_left ∙ append-nil w.front

    pub reads_fine : may_end s.due ≡ true → RingsOutcome f out₀ (Value n at) out
    reads_fine e = go w.begun refl (subst (λ (t : State). may_end t.due ≡ true) w.state e)
      where
        go : (b : Begun) → w.begun ≡ b → may_end (state_of b).due ≡ true → RingsOutcome f out₀ (Value n at) out
        go (at_layer rs) q t =
            let g = file_begins five limit rs w.front (subst (λ (b : Begun). Begins limit (FileSpells five) (spelt five 1) b w.front) q w.file) in
            let k = list_begins limit rs w.numbers (subst (λ (b : Begun). Begins limit ListSpells [] b w.numbers) q w.list) in
            inr (record { rings = rs; good = g.0; from = all ∙ g.1; is = ap₂ Value (w.count ∙ ap length k.1) (w.place ∙ ap length (sym all)); wrote = w.wrote ∙ ap (sets out₀ 0) k.1 })
        go (at_count rs l) q t = absurd (false≢true t)
        go (at_x rs l k ps) q t = absurd (false≢true t)
        go (at_y rs l k ps x) q t = absurd (false≢true t)

    pub reads_short : may_end s.due ≡ false → RingsOutcome f out₀ (Err (EndsInside (length f))) out
    reads_short e =
        inl (refuses answer_of (RingFault five limit f) (EndsInside (length f)) (record { begun = w.begun; front = w.front; rest = drop at f; is = w.is; begins = w.file; due = inl ((subst⁻¹ (Cut five) nothing_left (record { continued = tt; short = lit≤ tt }), λ d z. not_end w.begun d (subst (λ (t : State). may_end t.due ≡ false) w.state e)), refl) }))
