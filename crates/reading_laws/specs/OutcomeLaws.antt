-- A call goes through its input twice: with no room, and into the buffer that it is lent. Its table by the outcomes. Over any refusals, by how they are told.
-- Assumes nothing.
--
--   refuses, refuses_read    a reader's refusal by a table
--   Table ..                 what the table T of a call says of a fault, and of good rings
--   list_table, file_table   the tables of the calls
--   settled_refused          the first outcome, or the room, refuses
--   made_refused             the second outcome does not refuse after that
--   made_done                it is the accepted answer
use Rattle.std.specs.Prelude.{◌≡◌, refl, Result, Ok, Err, ℕ, ◌≤◌, ◌<◌, ℤ}
use Rattle.std.proofs.Math.Path.{sym, ap, subst⁻¹}
use Rattle.std.proofs.Common.{subst, ◌∙◌, inl, inr, arith}
use mathlib.Core.List.{List, ◌++◌}
use Rattle.std.proofs.Math.Decide.{dec_lt}
use Rattle.std.proofs.Math.ListN.{length, drop}
use borrow.Author.Tests.{lt-ltb, le-ltb}
use Rattle.basic_laws.specs.Stores.{sets_all}
use Rattle.meaning.specs.Numbers.{limit}
use Rattle.meaning.specs.Answers.{Answer, Row, accepted, room_too_short}
use Rattle.meaning.specs.Rings.{Ring, GoodRings, ring_numbers}
use Rattle.meaning.specs.MaskFile.{five, longest, bytes_of}
use Rattle.meaning.specs.Faults.{FileFault, ListFault, Laid, Read, OfList}
use Rattle.ring_laws.specs.Groups.{clash}
use Rattle.ring_laws.specs.Meet.{list_fault_none, one_list, one_file}
use Rattle.ring_laws.specs.Calls.{holds, some, file_fault_none, read_fault, read_laid, list_fault, list_laid, laid_short, laid_done}
use Rattle.numbers.specs.Reading.{found, settled_of, Refuses}
use Rattle.numbers.specs.declared.Number.{Number}
use Rattle.reading_laws.specs.Outcome.{Made, Outcome}

pub refuses : {F : Type 0} (tell : F → Answer) (Fault : Row Answer) (f : F) → Fault (tell f) → Refuses tell Fault (Err f)
refuses tell Fault f x = record { refusal = f; is = refl; fault = x }

pub refuses_read : {F : Type 0} (tell : F → Answer) (Fault : Row Answer) (r : Result Number F) (f : F) → r ≡ Err f → Fault (tell f) → Refuses tell Fault r
refuses_read tell Fault r f q x = record { refusal = f; is = q; fault = x }

-- ---- the tables

pub record Table {B C : Type 0} (Fault : Row Answer) (form : List Ring → List C) (make : List Ring → List B) (f : List C) (out : List B) (T : Row (Answer × List B)) : Type 0 where
  pub faulty : (a : Answer) → Fault a → T (a, out)
  pub laid : (rs : List Ring) (r : Answer × List B) → GoodRings limit rs → f ≡ form rs → Laid (make rs) out r → T r
  pub sound : (rs : List Ring) → GoodRings limit rs → f ≡ form rs → (a : Answer) → Fault a → ⊥
  pub one : (rs qs : List Ring) → GoodRings limit rs → GoodRings limit qs → form rs ≡ form qs → rs ≡ qs

pub list_table : {B : Type 0} (make : List Ring → List B) (ns : List ℤ) (out : List B) → Table (ListFault limit ns) ring_numbers make ns out (OfList make ns out)
list_table make ns out =
    record {
      faulty = list_fault make ns out;
      laid = list_laid make ns out;
      sound = λ rs g e a x. list_fault_none limit rs g a (subst (λ (l : List ℤ). ListFault limit l a) e x);
      one = one_list limit;
    }

pub file_table : (f : List ℕ) (out : List ℤ) → length f ≤ longest → Table (FileFault five limit f) (bytes_of five) ring_numbers f out (Read f out)
file_table f out h =
    record {
      faulty = λ a x. read_fault f out a h x;
      laid = λ rs r g e l. read_laid f out rs r h g e l;
      sound = λ rs g e a x. file_fault_none five limit some holds rs g a (subst (λ (l : List ℕ). FileFault five limit l a) e x);
      one = one_file five limit some holds;
    }

-- ---- a refusal that is handed on

handed : {F : Type 0} (tell : F → Answer) (a : Answer) (g h : F) → a ≡ tell g → ◌≡◌ {A = Result Number F} (Err g) (Err h) → a ≡ tell h
handed tell a g h s q = let i : g ≡ h = cc in s ∙ ap tell i

-- ---- a call: r is the outcome with no room, j what the call goes on with, and too_short its refusal where the room is too short, which tells 18

module _ {B C F : Type 0} {tell : F → Answer} (too_short : ℕ → F) (tells : (n : ℕ) → tell (too_short n) ≡ room_too_short n) {Fault : Row Answer} {form : List Ring → List C} {make : List Ring → List B} {f : List C} {out : List B} {T : Row (Answer × List B)} (t : Table Fault form make f out T) (none none' : List B) (r j : Result Number F) (o : Outcome tell Fault form make f none r none') (e : j ≡ settled_of too_short r (length out)) where
  -- the room, after good rings
  module _ (x : Made form make f none r none') where
    needed : ℕ
    needed = length (make x.rings)

    short : length out < needed → j ≡ Err (too_short needed)
    unfolding settled_of needed
    short h = e ∙ rw (x.is, lt-ltb (length out) (length (make x.rings)) h)

    enough : needed ≤ length out → j ≡ Ok (found needed (length f))
    unfolding settled_of needed
    enough h = e ∙ rw (x.is, le-ltb (length out) (length (make x.rings)) h)

  kept : (g : F) → r ≡ Err g → j ≡ Err g
  unfolding settled_of
  kept g q = e ∙ rw q

  pub settled_refused : (g : F) (a : Answer) → j ≡ Err g → a ≡ tell g → T (a, out)
  unfolding needed
  settled_refused g a q s = go o
    where
      lies : (x : Made form make f none r none') → Dec (length out < needed x) → T (a, out)
      lies x (yes h) =
          subst⁻¹ (λ (b : Answer). T (b, out)) (handed tell a g (too_short (needed x)) s (sym q ∙ short x h) ∙ tells (needed x))
          (t.laid x.rings (room_too_short (needed x), out) x.good x.from (laid_short (make x.rings) out h))
      lies x (no h) = let w : Ok (found (needed x) (length f)) ≡ Err g = sym (enough x (omega arith)) ∙ q in clash (cc)

      go : Outcome tell Fault form make f none r none' → T (a, out)
      go (inl x) = subst⁻¹ (λ (b : Answer). T (b, out)) (handed tell a g x.refusal s (sym q ∙ kept x.refusal x.is)) (t.faulty (tell x.refusal) x.fault)
      go (inr x) = lies x (dec_lt (length out) (needed x))

  module _ (m : Number) (q : j ≡ Ok m) where
    first : (x : Made form make f none r none') × (needed x ≤ length out)
    first = go o
      where
        lies : (x : Made form make f none r none') → Dec (length out < needed x) → (x : Made form make f none r none') × (needed x ≤ length out)
        lies x (yes h) = let w : Err (too_short (needed x)) ≡ Ok m = sym (short x h) ∙ q in clash (cc)
        lies x (no h) = (x, omega arith)

        go : Outcome tell Fault form make f none r none' → (x : Made form make f none r none') × (needed x ≤ length out)
        go (inl x) = let w : Err x.refusal ≡ Ok m = sym (kept x.refusal x.is) ∙ q in clash (cc)
        go (inr x) = lies x (dec_lt (length out) (needed x))

    -- s is the outcome in the buffer lent
    module _ (s : Result Number F) (a : Answer) (after : List B) where
      pub made_refused : (g : F) → Outcome tell Fault form make f out s after → s ≡ Err g → T (a, after)
      made_refused g (inl x) z = absurd (t.sound first.0.rings first.0.good first.0.from (tell x.refusal) x.fault)
      made_refused g (inr x) z = let w : Ok (found (length (make x.rings)) (length f)) ≡ Err g = sym x.is ∙ z in clash (cc)

      pub made_done : (n : Number) → Outcome tell Fault form make f out s after → s ≡ Ok n → a ≡ accepted n.value → T (a, after)
      unfolding needed
      made_done n (inl x) z i = absurd (t.sound first.0.rings first.0.good first.0.from (tell x.refusal) x.fault)
      made_done n (inr x) z i =
          let w : Ok n ≡ Ok (found (length (make x.rings)) (length f)) = sym z ∙ x.is in
          let v : n.value ≡ length (make x.rings) = cc in
          let k : first.0.rings ≡ x.rings = t.one first.0.rings x.rings first.0.good x.good (sym first.0.from ∙ x.from) in
          let h : length (make x.rings) ≤ length out = omega (arith, first.1, ap (λ (rs : List Ring). length (make rs)) k) in
          let u : after ≡ make x.rings ++ drop (length (make x.rings)) out = x.wrote ∙ sets_all (make x.rings) out h in
          rw (i, v, u) (t.laid x.rings (accepted (length (make x.rings)), make x.rings ++ drop (length (make x.rings)) out) x.good x.from (laid_done (make x.rings) out h))
