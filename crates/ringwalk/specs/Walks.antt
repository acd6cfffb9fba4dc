-- The way through a ring list. Assumes nothing.
--
--   Walks ..      what has been read at a place, and what has been written
--   walks_begins, walks_on, walks_refused, walks_fine, walks_short   the start, a number, a refusal, the end
--   walks_fault, walks_follows   what the code asks of a number
use Rattle.std.specs.Prelude.{◌≡◌, refl, None, Err, true, false, List, [], ◌++◌, ℕ, ◌+◌, ◌*◌, ◌≤◌, ◌<◌, ℤ, pos, length, get_or}
use Rattle.std.proofs.Common.{ap, ap₂, subst, ◌∙◌, inl, inr, arith, length-append}
use Rattle.std.proofs.Math.Path.{subst⁻¹}
use lib.Seq.{sets}
use Rattle.basic_laws.specs.Signed.{key_of}
use Rattle.basic_laws.specs.Stores.{sets_append}
use Rattle.meaning.specs.Numbers.{limit}
use Rattle.meaning.specs.Rings.{Ring}
use Rattle.meaning.specs.Faults.{Begun, at_layer, after, ListFault}
use Rattle.ring_laws.specs.Beginnings.{good_begins}
use Rattle.answers.specs.Told.{answer_of}
use Rattle.answers.specs.declared.Refusal.{Refusal}
use Rattle.answers.specs.declared.Refusal.TheVariants.{EndsInside}
use Rattle.numbers.specs.Reading.{Reading, Value, in_numbers}
use Rattle.rings.specs.State.{start, may_end, fault_of, next_of, due_in_list}
use Rattle.rings.specs.declared.State.{State}
use Rattle.reading_laws.specs.Outcome.{ListOutcome}
use Rattle.reading_laws.specs.OutcomeLaws.{refuses, refuses_read}
use Rattle.reading_laws.specs.ListWalk.{ListAt, list_at_start, list_fault_free, Passed, passed, list_at_next, list_refused, list_over, list_short}
use Rattle.ringwalk.specs.Made.{Follows, Starts, MadeLaws}

pub record Walks {B : Type 0} (Begins : Begun → List B → Type 0) (ns : List ℤ) (out₀ : List B) (s : State) (i n : ℕ) (out : List B) : Type 0 where
  pub begun : Begun
  pub at : ListAt ns begun s i
  pub items : List B
  pub begins : Begins begun items
  pub count : n ≡ length items
  pub wrote : out ≡ sets out₀ 0 items
  pub bound : n ≤ 5 * i + 5

pub walks_begins : {B : Type 0} (Begins : Begun → List B → Type 0) (ns : List ℤ) (out₀ : List B) (n : ℕ) (out : List B) → Starts Begins out₀ n out → Walks Begins ns out₀ (start 4096) 0 n out
walks_begins Begins ns out₀ n out x =
    record { begun = at_layer []; at = list_at_start ns; items = x.items; begins = x.begins; count = x.count; wrote = x.wrote; bound = omega (arith, x.count, x.few) }

module _ {B : Type 0} {Begins : Begun → List B → Type 0} {adds : State → ℕ → List B} {make : List Ring → List B} (laws : MadeLaws Begins adds make) (ns : List ℤ) (out₀ : List B) (s : State) (i n : ℕ) (out : List B) (w : Walks Begins ns out₀ s i n out) where
  module _ (lt : i < length ns) (r : Reading) (v next : ℕ) (e : r ≡ due_in_list limit s (key_of (get_or ns i (pos 0))) i) (q : r ≡ Value v next) where
    p : Passed w.begun (get_or ns i (pos 0)) i v next
    p = passed ns w.begun s i w.at lt r v next e q

    pub walks_fault : fault_of limit s v ≡ None
    walks_fault = list_fault_free ns w.begun s i w.at lt r v next e q

    pub walks_follows : Follows s v
    walks_follows = record { begun = w.begun; number = get_or ns i (pos 0); good = good_begins w.at.list; natural = p.natural; fine = p.fine; state = w.at.state; value = p.value }

    pub walks_on : (m : ℕ) (after-out : List B) → m ≡ n + length (adds s v) → after-out ≡ sets out n (adds s v) → Walks Begins ns out₀ (next_of s v) (i + 1) m after-out
    walks_on m after-out y o =
        record {
          begun = after w.begun (get_or ns i (pos 0));
          at = subst (ListAt ns (after w.begun (get_or ns i (pos 0))) (next_of s v)) p.place (list_at_next ns w.begun s i w.at lt r v next e q);
          items = w.items ++ adds s v;
          begins = subst⁻¹ (λ (l : List B). Begins (after w.begun (get_or ns i (pos 0))) (w.items ++ l)) (ap₂ adds w.at.state p.value) (laws.more w.begun w.items (get_or ns i (pos 0)) w.begins (good_begins w.at.list) p.natural p.fine);
          count = omega (arith, y, w.count, length-append w.items (adds s v));
          wrote = o ∙ ap₂ (λ (l : List B) (u : ℕ). sets l u (adds s v)) w.wrote place ∙ sets_append w.items (adds s v) out₀ 0;
          bound = omega (arith, y, w.bound, laws.few s v);
        }
      where
        place : n ≡ 0 + length w.items
        place = omega (arith, w.count)

  pub walks_refused : (lt : i < length ns) (r : Reading) (f : Refusal) (after-out : List B) → r ≡ due_in_list limit s (key_of (get_or ns i (pos 0))) i → r ≡ Err f → ListOutcome make ns out₀ r after-out
  walks_refused lt r f after-out e x =
      inl (refuses_read answer_of (ListFault limit ns) r f x (list_refused ns w.begun s i w.at lt (in_numbers answer_of r) (answer_of f) (ap (in_numbers answer_of) e) (ap (in_numbers answer_of) x)))

  module _ (over : length ns ≤ i) where
    pub walks_fine : may_end s.due ≡ true → ListOutcome make ns out₀ (Value n (length ns)) out
    walks_fine e =
        let x = list_over ns w.begun s i w.at over e in
        let g : w.items ≡ make x.0 = laws.whole x.0 w.items x.2 (subst (λ (b : Begun). Begins b w.items) x.1 w.begins) in
        inr (record { rings = x.0; good = x.2; from = x.3; is = ap₂ Value (w.count ∙ ap length g) refl; wrote = w.wrote ∙ ap (sets out₀ 0) g })

    pub walks_short : may_end s.due ≡ false → ListOutcome make ns out₀ (Err (EndsInside (length ns))) out
    walks_short e = inl (refuses answer_of (ListFault limit ns) (EndsInside (length ns)) (list_short ns w.begun s i w.at over e))
