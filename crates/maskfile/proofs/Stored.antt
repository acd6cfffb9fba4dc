-- What a stored number means where it is due. Assumes nothing.
--
--   meant b m       the number that is stored as m, due after b
--   meant_means     it is stored so
--   value_keyed     and the code makes it of m
--   Taken, taken    what a value read where a number is due says
--   Left, left      what a refusal there says
use mathlib.Core.Path.{◌≡◌, refl, sym, ap, ap₂, ◌∙◌}
use mathlib.Core.Bool.{Bool, true, false, true≢false, false≢true}
use mathlib.Core.List.{List}
use Prim.Native.Nat.{ℕ, suc, ◌+◌, ◌-◌, ◌/◌, ◌%◌, ◌≤◌, ◌<◌}
use native.Mathlib.Omega.{arith}
use native.Mathlib.Decide.{ℕ_discrete}
use lib.Dec.{eqb, ltb}
use lib.IntN.{ℤ, pos, negsuc, nat_abs, sub_ℕ, ◌+ℤ◌, ◌-ℤ◌}
use borrow.Author.Tests.{eq-eqb, ne_eqb, eqb-true, ltb-true, ltb-false}
use Rattle.basic_laws.specs.Signed.{key_of}
use Rattle.meaning.specs.Numbers.{pick, limit}
use Rattle.std.specs.Prelude.{Some, None, Err}
use Rattle.answers.specs.declared.Refusal.{Refusal}
use Rattle.answers.specs.declared.Refusal.TheVariants.{EndsInside, BadNumber}
use Rattle.meaning.specs.Rings.{xs, ys}
use Rattle.meaning.specs.MaskFile.{most, five, signed}
use Rattle.meaning.specs.Faults.{Begun, at_layer, at_count, at_x, at_y, previous, Stores, IsCoordinate}
use Rattle.ring_laws.specs.Groups.{Front, cut, bad, number, front, clash, front_bounds}
use Rattle.ring_laws.specs.Differences.{unsigned, signed_unsigned, difference_back, within_range}
use Rattle.ring_laws.specs.Beginnings.{Good}
use Rattle.ring_laws.specs.Forms.{previous_size, range_xs, range_ys}
use Rattle.numbers.specs.Reading.{Reading, Value, reading}
use Rattle.rings.specs.State.{is_coordinate, fault_of, judged_as}
use Rattle.reading_laws.specs.StateOf.{state_of, keyed}
use Rattle.rings.specs.declared.State.{State}
use Rattle.reading_laws.specs.Judging.{same_read, judged_value, judged_refused}
use Rattle.reading_laws.specs.Standing.{Natural, zero_in}
use Rattle.maskfile.specs.Due.{moved, value_of, minus_zero, due_in_file}

abbrev pub meant : Begun → ℕ → ℤ
meant (at_layer rs) m = pos m
meant (at_count rs l) m = pos m
meant (at_x rs l k ps) m = unsigned m +ℤ previous (xs ps)
meant (at_y rs l k ps x) m = unsigned m +ℤ previous (ys ps)

pub meant_natural : (b : Begun) (m : ℕ) → Natural b (meant b m)
meant_natural (at_layer rs) m = (m, refl)
meant_natural (at_count rs l) m = (m, refl)
meant_natural (at_x rs l k ps) m = tt
meant_natural (at_y rs l k ps x) m = tt

not_one : (m : ℕ) → pick (eqb m 1) true false ≡ false → m ≡ 1 → ⊥
not_one m h e = true≢false (sym (ap (λ (t : Bool). pick t true false) (eq-eqb m 1 e)) ∙ h)

back : (m : ℕ) (p : ℤ) → (m ≡ 1 → ⊥) → m ≡ signed ((unsigned m +ℤ p) -ℤ p)
back m p h = sym (ap signed (difference_back (unsigned m) p) ∙ signed_unsigned m h)

pub meant_means : (b : Begun) (m : ℕ) → minus_zero (state_of b).due m ≡ false → Stores b m (meant b m)
meant_means (at_layer rs) m h = refl
meant_means (at_count rs l) m h = refl
meant_means (at_x rs l k ps) m h = back m (previous (xs ps)) (not_one m h)
meant_means (at_y rs l k ps x) m h = back m (previous (ys ps)) (not_one m h)

pub coordinate_due : (b : Begun) (m : ℕ) → minus_zero (state_of b).due m ≡ true → IsCoordinate b × (m ≡ 1)
coordinate_due b m h = (go b (eqb m 1) h, eqb-true m 1 (one (eqb m 1) (is_coordinate (state_of b).due) h))
  where
    one : (t u : Bool) → pick t u false ≡ true → t ≡ true
    one true u e = refl
    one false u e = e

    go : (b : Begun) (t : Bool) → pick t (is_coordinate (state_of b).due) false ≡ true → IsCoordinate b
    go (at_layer rs) true e = absurd (false≢true e)
    go (at_layer rs) false e = absurd (false≢true e)
    go (at_count rs l) true e = absurd (false≢true e)
    go (at_count rs l) false e = absurd (false≢true e)
    go (at_x rs l k ps) t e = tt
    go (at_y rs l k ps x) t e = tt

-- ---- the code's sum

sub_key : (a b : ℕ) → key_of (sub_ℕ a b) ≡ a + 2147483648 - b
sub_key a b = go (ltb a b) refl
  where
    go : (t : Bool) → ltb a b ≡ t → key_of (sub_ℕ a b) ≡ a + 2147483648 - b
    go true e = rw e (omega (arith, ltb-true a b e))
    go false e = rw e (omega (arith, ltb-false a b e))

up : (d : ℕ) (p : ℤ) → nat_abs p ≤ limit → key_of p + d ≡ key_of (pos d +ℤ p)
up d (pos a) h = omega arith
up d (negsuc a) h = omega (arith, sub_key d (suc a))

down : (d : ℕ) (p : ℤ) → nat_abs p ≤ limit → key_of p - suc d ≡ key_of (negsuc d +ℤ p)
down d (pos a) h = omega (arith, sub_key a (suc d))
down d (negsuc a) h = omega arith

moved_key : (p : ℤ) (m : ℕ) → nat_abs p ≤ limit → (m ≡ 1 → ⊥) → moved (key_of p) m ≡ key_of (unsigned m +ℤ p)
moved_key p m h n = go (ℕ_discrete (m % 2) 0)
  where
    go : Dec (m % 2 ≡ 0) → moved (key_of p) m ≡ key_of (unsigned m +ℤ p)
    go (yes e) = rw (eq-eqb (m % 2) 0 e) (up (m / 2) p h)
    go (no e) =
        let d : m / 2 ≡ suc (m / 2 - 1) = omega arith in
        rw (ne_eqb (m % 2) 0 e) (ap (λ (x : ℕ). key_of p - x) d ∙ down (m / 2 - 1) p h)

pub value_keyed : (b : Begun) (m : ℕ) → Good limit b → minus_zero (state_of b).due m ≡ false → value_of (state_of b) m ≡ keyed b (meant b m)
unfolding value_of
value_keyed (at_layer rs) m g h = refl
value_keyed (at_count rs l) m g h = refl
value_keyed (at_x rs l k ps) m g h =
    moved_key (previous (xs ps)) m (within_range limit (previous (xs ps)) (previous_size limit (pos 0) (xs ps) (zero_in limit) (range_xs limit ps g.range))) (not_one m h)
value_keyed (at_y rs l k ps x) m g h =
    moved_key (previous (ys ps)) m (within_range limit (previous (ys ps)) (previous_size limit (pos 0) (ys ps) (zero_in limit) (range_ys limit ps g.0.range))) (not_one m h)

-- ---- a value, and a refusal, where a number is due

pub record Taken (s : State) (at : ℕ) (fr : Front) (v next : ℕ) : Type 0 where
  pub stored : ℕ
  pub count : ℕ
  pub front : fr ≡ number stored count
  pub whole : minus_zero s.due stored ≡ false
  pub fine : fault_of limit s (value_of s stored) ≡ None
  pub value : v ≡ value_of s stored
  pub place : next ≡ at + count

pub taken : (len : ℕ) (s : State) (at : ℕ) (fr : Front) (r : Reading) (v next : ℕ) → r ≡ due_in_file len s at fr → r ≡ Value v next → Taken s at fr v next
unfolding due_in_file
taken len s at cut r v next e q = clash (cc)
taken len s at bad r v next e q = clash (cc)
taken len s at (number m c) r v next e q = go (minus_zero s.due m) refl
  where
    go : (t : Bool) → minus_zero s.due m ≡ t → Taken s at (number m c) v next
    go true w =
        let x : Err (BadNumber at) ≡ Value v next = sym (ap (λ (t : Bool). pick t (Err (BadNumber at)) (judged_as limit s (value_of s m) at (at + c))) w) ∙ sym e ∙ q in
        clash (cc)
    go false w =
        let x = judged_value limit s (value_of s m) at (at + c) v next (sym (ap (λ (t : Bool). pick t (Err (BadNumber at)) (judged_as limit s (value_of s m) at (at + c))) w) ∙ sym e ∙ q) in
        record { stored = m; count = c; front = refl; whole = w; fine = x.0; value = x.1.0; place = x.1.1 }

-- the refusal f, by what stands at the front
pub data Left (len : ℕ) (s : State) (at : ℕ) (fr : Front) (f : Refusal) : Type 0 where
  absent : fr ≡ cut → f ≡ EndsInside len → Left len s at fr f
  malformed : fr ≡ bad → f ≡ BadNumber at → Left len s at fr f
  minus : (m c : ℕ) → fr ≡ number m c → minus_zero s.due m ≡ true → f ≡ BadNumber at → Left len s at fr f
  faulty : (m c : ℕ) → fr ≡ number m c → minus_zero s.due m ≡ false → (g : ℕ → Refusal) → fault_of limit s (value_of s m) ≡ Some g → f ≡ g at → Left len s at fr f

pub left : (len : ℕ) (s : State) (at : ℕ) (fr : Front) (r : Reading) (f : Refusal) → r ≡ due_in_file len s at fr → r ≡ Err f → Left len s at fr f
unfolding due_in_file
left len s at cut r f e q = absent refl (cc)
left len s at bad r f e q = malformed refl (cc)
left len s at (number m c) r f e q = go (minus_zero s.due m) refl
  where
    go : (t : Bool) → minus_zero s.due m ≡ t → Left len s at (number m c) f
    go true w =
        let x : Err (BadNumber at) ≡ Err f = sym (ap (λ (t : Bool). pick t (Err (BadNumber at)) (judged_as limit s (value_of s m) at (at + c))) w) ∙ sym e ∙ q in
        minus m c refl w (cc)
    go false w =
        let x = judged_refused limit s (value_of s m) at (at + c) f (sym (ap (λ (t : Bool). pick t (Err (BadNumber at)) (judged_as limit s (value_of s m) at (at + c))) w) ∙ sym e ∙ q) in
        faulty m c refl w x.0 x.1 x.2

-- ---- the code's own steps, after the number r was read

module _ (len : ℕ) (s : State) (at : ℕ) (bs : List ℕ) (r : Reading) (e : r ≡ reading len at at (front five bs)) where
  pub due_refused : (f : Refusal) → r ≡ Err f → r ≡ due_in_file len s at (front five bs)
  unfolding reading due_in_file
  due_refused f q = e ∙ go (front five bs) (sym e ∙ q)
    where
      go : (fr : Front) → reading len at at fr ≡ Err f → reading len at at fr ≡ due_in_file len s at fr
      go cut w = refl
      go bad w = refl
      go (number m c) w = clash (cc)

  module _ (n next : ℕ) (q : r ≡ Value n next) where
    stands : (count : ℕ) × (front five bs ≡ number n count) × (next ≡ at + count)
    unfolding reading
    stands = go (front five bs) refl (sym e ∙ q)
      where
        go : (fr : Front) → front five bs ≡ fr → reading len at at fr ≡ Value n next → (count : ℕ) × (front five bs ≡ number n count) × (next ≡ at + count)
        go cut x w = clash (cc)
        go bad x w = clash (cc)
        go (number m c) x w = let i = same_read m (at + c) n next w in (c, x ∙ ap (λ (k : ℕ). number k c) i.0, sym i.1)

    pub stored_below : n < most five
    stored_below = (front_bounds five bs n stands.0 stands.1).0

    pub due_minus : minus_zero s.due n ≡ true → Err (BadNumber at) ≡ due_in_file len s at (front five bs)
    unfolding due_in_file
    due_minus t = rw (stands.1, t)

    pub due_judged : (v : ℕ) (a : Reading) → minus_zero s.due n ≡ false → v ≡ value_of s n → a ≡ judged_as limit s v at next → a ≡ due_in_file len s at (front five bs)
    unfolding due_in_file
    due_judged v a t i j = rw (stands.1, t) (j ∙ ap₂ (λ (x y : ℕ). judged_as limit s x at y) i stands.2)
