-- The way through a ring list, number by number. Assumes nothing.
--
--   ListAt ns b s i   the numbers before i are the beginning b, with no fault, and s is the state after them
--   list_at_start     before the first number
--   list_sane         the state's bounds
--   Passed, passed    what a due number that was read says
--   list_at_next      one number further
--   list_refused      a refusal on the way
--   list_over, list_short   the end of the list
use Rattle.std.specs.Prelude.{◌≡◌, refl, None, Result, Ok, Err, true, false, List, [], ◌∷◌, ◌++◌, ℕ, suc, ◌+◌, ◌-◌, ◌≤◌, ◌<◌, ℤ, pos, negsuc, length, get_or, take, drop}
use Rattle.std.proofs.Common.{sym, ap, ap₂, subst, ◌∙◌, inl, inr, arith, add-one, lit≤, take-append-drop, drop_of_length-le, take-suc, take_all, drop-cons, length-take-le, lt-ltb, le-ltb}
use Rattle.std.proofs.Math.Path.{subst⁻¹}
use Rattle.std.proofs.lemmas.Bool.{false≢true}
use Rattle.basic_laws.specs.Signed.{key_of}
use Rattle.meaning.specs.Numbers.{limit}
use Rattle.meaning.specs.Answers.{Answer, ends_inside, ring_out_of_range}
use Rattle.answers.specs.Told.{answer_of}
use Rattle.answers.specs.declared.Refusal.{Refusal}
use Rattle.answers.specs.declared.Refusal.TheVariants.{RingOutOfRange}
use Rattle.meaning.specs.Rings.{Ring, GoodRings, pairs_in, ring_numbers}
use Rattle.meaning.specs.Faults.{Begun, at_layer, at_count, at_x, at_y, after, Begins, nothing, more, ListSpells, DueJudged, ListFault}
use Rattle.ring_laws.specs.Groups.{clash}
use Rattle.ring_laws.specs.Beginnings.{Fine, Good, good_begins}
use Rattle.ring_laws.specs.Forms.{list_begins}
use Rattle.numbers.specs.Reading.{Reading, Value, in_numbers}
use Rattle.numbers.specs.declared.Number.{Number}
use Rattle.rings.specs.State.{start, is_coordinate, may_end, fault_of, next_of, judged_as, due_in_list, Sane}
use Rattle.reading_laws.specs.StateOf.{state_of, keyed}
use Rattle.rings.specs.declared.State.{State}
use Rattle.reading_laws.specs.Judging.{judged_value, judged_refused}
use Rattle.reading_laws.specs.Standing.{Natural, verdict, negative, next_state, sane, not_end}

pub record ListAt (ns : List ℤ) (b : Begun) (s : State) (i : ℕ) : Type 0 where
  pub state : s ≡ state_of b
  pub list : Begins limit ListSpells [] b (take i ns)
  pub within : i ≤ length ns

pub list_at_start : (ns : List ℤ) → ListAt ns (at_layer []) (start 4096) 0
unfolding pairs_in
list_at_start ns = record { state = refl; list = nothing; within = omega arith }

-- ---- the due number z, which stands as key_of z

-- a layer or a k is negative where it stands below 2^31
pub data Sign (b : Begun) (z : ℤ) : Type 0 where
  coordinate : is_coordinate (state_of b).due ≡ true → keyed b z ≡ key_of z → Natural b z → Sign b z
  below : is_coordinate (state_of b).due ≡ false → (n : ℕ) → z ≡ negsuc n → (Natural b (negsuc n) → ⊥) → key_of z < 2147483648 → Sign b z
  above : is_coordinate (state_of b).due ≡ false → Natural b z → 2147483648 ≤ key_of z → keyed b z ≡ key_of z - 2147483648 → Sign b z

sign : (b : Begun) (z : ℤ) → Sign b z
sign (at_layer rs) (pos n) = above refl (n, refl) (omega arith) (omega arith)
sign (at_layer rs) (negsuc n) = below refl n refl (λ u. let e = u.1 in clash (cc)) (omega arith)
sign (at_count rs l) (pos n) = above refl (n, refl) (omega arith) (omega arith)
sign (at_count rs l) (negsuc n) = below refl n refl (λ u. let e = u.1 in clash (cc)) (omega arith)
sign (at_x rs l k ps) z = coordinate refl refl tt
sign (at_y rs l k ps x) z = coordinate refl refl tt

pub record Passed (b : Begun) (z : ℤ) (i v next : ℕ) : Type 0 where
  pub natural : Natural b z
  pub value : v ≡ keyed b z
  pub fault : fault_of limit (state_of b) v ≡ None
  pub fine : Fine limit b z
  pub place : next ≡ i + 1

module _ (b : Begun) (z : ℤ) (i : ℕ) (g : Good limit b) where
  due_value : (v next : ℕ) → due_in_list limit (state_of b) (key_of z) i ≡ Value v next → Passed b z i v next
  unfolding due_in_list
  due_value v next e = go (sign b z)
    where
      whole : Natural b z → judged_as limit (state_of b) (keyed b z) i (i + 1) ≡ Value v next → Passed b z i v next
      whole u q =
          let j = judged_value limit (state_of b) (keyed b z) i (i + 1) v next q in
          record { natural = u; value = j.1.0; fault = subst⁻¹ (λ (x : ℕ). fault_of limit (state_of b) x ≡ None) j.1.0 j.0; fine = (verdict limit (lit≤ tt) b z 0 g u).fine j.0; place = j.1.1 }

      go : Sign b z → Passed b z i v next
      go (coordinate c k u) = whole u (rw k (rw c at e))
      go (below c n q u h) = let w : Err (RingOutOfRange i) ≡ Value v next = rw (c, lt-ltb (key_of z) 2147483648 h) at e in clash (cc)
      go (above c u h k) = whole u (rw k (rw (c, le-ltb (key_of z) 2147483648 h) at e))

  due_refused : (a : Answer) → in_numbers answer_of (due_in_list limit (state_of b) (key_of z) i) ≡ Err a → DueJudged limit b z i a
  unfolding due_in_list
  due_refused a e = go (sign b z)
    where
      told : (r : Reading) → in_numbers answer_of r ≡ Err a → (f : Refusal) × (r ≡ Err f) × (a ≡ answer_of f)
      told (Ok n) q = clash (cc)
      told (Err f) q = (f, refl, cc)

      whole : Natural b z → in_numbers answer_of (judged_as limit (state_of b) (keyed b z) i (i + 1)) ≡ Err a → DueJudged limit b z i a
      whole u q =
          let t = told (judged_as limit (state_of b) (keyed b z) i (i + 1)) q in
          let j = judged_refused limit (state_of b) (keyed b z) i (i + 1) t.0 t.1 in
          subst⁻¹ (DueJudged limit b z i) (t.2 ∙ ap answer_of j.2) ((verdict limit (lit≤ tt) b z i g u).refused j.0 j.1)

      go : Sign b z → DueJudged limit b z i a
      go (coordinate c k u) = whole u (rw k (rw c at e))
      go (below c n q u h) =
          let w : ◌≡◌ {A = Result Number Answer} (Err (ring_out_of_range i)) (Err a) = rw (c, lt-ltb (key_of z) 2147483648 h) at e in
          let x : a ≡ ring_out_of_range i = cc in
          rw (q, x) (negative limit b n i u)
      go (above c u h k) = whole u (rw k (rw (c, le-ltb (key_of z) 2147483648 h) at e))

-- ---- along the list

module _ (ns : List ℤ) (b : Begun) (s : State) (i : ℕ) (w : ListAt ns b s i) where
  good : Good limit b
  good = good_begins w.list

  pub list_sane : Sane s
  list_sane = subst⁻¹ Sane w.state (sane b good)

  here : {A : Type 0} (told : Reading → A) (r x : A) → r ≡ told (due_in_list limit s (key_of (get_or ns i (pos 0))) i) → r ≡ x → told (due_in_list limit (state_of b) (key_of (get_or ns i (pos 0))) i) ≡ x
  here told r x e q = sym (ap (λ (t : State). told (due_in_list limit t (key_of (get_or ns i (pos 0))) i)) w.state) ∙ sym e ∙ q

  module _ (lt : i < length ns) where
    take_next : take (i + 1) ns ≡ take i ns ++ get_or ns i (pos 0) ∷ []
    take_next = rw add-one (take-suc ns i (pos 0) lt)

    module _ (r : Reading) (v next : ℕ) (e : r ≡ due_in_list limit s (key_of (get_or ns i (pos 0))) i) (q : r ≡ Value v next) where
      pub passed : Passed b (get_or ns i (pos 0)) i v next
      passed = due_value b (get_or ns i (pos 0)) i good v next (here (λ (x : Reading). x) r (Value v next) e q)

      pub list_fault_free : fault_of limit s v ≡ None
      list_fault_free = subst⁻¹ (λ (t : State). fault_of limit t v ≡ None) w.state passed.fault

      pub list_at_next : ListAt ns (after b (get_or ns i (pos 0))) (next_of s v) next
      list_at_next =
          record {
            state = ap₂ next_of w.state passed.value ∙ next_state limit b (get_or ns i (pos 0)) good passed.fine;
            list = rw (passed.place, take_next) (more (get_or ns i (pos 0)) (get_or ns i (pos 0) ∷ []) w.list refl passed.fine);
            within = omega (arith, passed.place);
          }

    pub list_refused : (r : Result Number Answer) (a : Answer) → r ≡ in_numbers answer_of (due_in_list limit s (key_of (get_or ns i (pos 0))) i) → r ≡ Err a → ListFault limit ns a
    list_refused r a e q =
        record {
          begun = b;
          front = take i ns;
          rest = drop i ns;
          is = sym (take-append-drop i ns);
          begins = w.list;
          due = inr (λ a j. nonempty j.0.0, (get_or ns i (pos 0), drop (suc i) ns, drop-cons ns i (pos 0) lt, rw (length-take-le i ns w.within) (due_refused b (get_or ns i (pos 0)) i good a (here (in_numbers answer_of) r (Err a) e q))));
        }
      where
        nonempty : drop i ns ≡ [] → ⊥
        nonempty x = let k : [] ≡ get_or ns i (pos 0) ∷ drop (suc i) ns = sym x ∙ drop-cons ns i (pos 0) lt in clash (cc)

  module _ (over : length ns ≤ i) where
    pub list_over : may_end s.due ≡ true → (rs : List Ring) × (b ≡ at_layer rs) × GoodRings limit rs × (ns ≡ ring_numbers rs)
    list_over e = go b refl (subst (λ (t : State). may_end t.due ≡ true) w.state e)
      where
        go : (c : Begun) → b ≡ c → may_end (state_of c).due ≡ true → (rs : List Ring) × (b ≡ at_layer rs) × GoodRings limit rs × (ns ≡ ring_numbers rs)
        go (at_layer rs) q t =
            let k = list_begins limit rs (take i ns) (subst (λ (c : Begun). Begins limit ListSpells [] c (take i ns)) q w.list) in
            (rs, q, k.0, sym (take_all i ns over) ∙ k.1)
        go (at_count rs l) q t = absurd (false≢true t)
        go (at_x rs l k ps) q t = absurd (false≢true t)
        go (at_y rs l k ps x) q t = absurd (false≢true t)

    pub list_short : may_end s.due ≡ false → ListFault limit ns (ends_inside (length ns))
    list_short e =
        record { begun = b; front = take i ns; rest = drop i ns; is = sym (take-append-drop i ns); begins = w.list; due = inl ((drop_of_length-le ns over, λ d. not_end b d (subst (λ (t : State). may_end t.due ≡ false) w.state e)), refl) }
