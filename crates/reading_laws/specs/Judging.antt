-- What the answer of `judged` says. Assumes nothing.
--
--   same_read       a reader's value, and the place after it, are told by its answer
--   judged_value    a due number that is read has no fault
--   judged_refused  one that is refused has a fault, at its place
use Rattle.std.specs.Prelude.{◌≡◌, refl, ℕ, Option, Some, None, Ok, Err}
use Rattle.std.proofs.Common.{sym, ap}
use Rattle.ring_laws.specs.Groups.{clash}
use Rattle.answers.specs.declared.Refusal.{Refusal}
use Rattle.numbers.specs.Reading.{Reading, Value}
use Rattle.numbers.specs.declared.Number.{Number}
use Rattle.rings.specs.State.{fault_of, judged_by, judged_as}
use Rattle.rings.specs.declared.State.{State}

same_number : (m n : Number) → ◌≡◌ {A = Reading} (Ok m) (Ok n) → m ≡ n
same_number m n e = cc

pub same_read : (v next u end : ℕ) → Value v next ≡ Value u end → (v ≡ u) × (next ≡ end)
same_read v next u end e =
    let i : ◌≡◌ {A = Number} (record { value = v; next = next }) (record { value = u; next = end }) = same_number (record { value = v; next = next }) (record { value = u; next = end }) e in
    (ap (λ (n : Number). n.value) i, ap (λ (n : Number). n.next) i)

pub judged_value : (L : ℕ) (s : State) (u at end v next : ℕ) → judged_as L s u at end ≡ Value v next → (fault_of L s u ≡ None) × ((v ≡ u) × (next ≡ end))
unfolding judged_as
judged_value L s u at end v next e = go (fault_of L s u) refl e
  where
    go : (o : Option (ℕ → Refusal)) → fault_of L s u ≡ o → judged_by o u at end ≡ Value v next → (fault_of L s u ≡ None) × ((v ≡ u) × (next ≡ end))
    go None q w = let i = same_read u end v next w in (q, (sym i.0, sym i.1))
    go (Some f) q w = clash (cc)

pub judged_refused : (L : ℕ) (s : State) (u at end : ℕ) (r : Refusal) → judged_as L s u at end ≡ Err r → (f : ℕ → Refusal) × (fault_of L s u ≡ Some f) × (r ≡ f at)
unfolding judged_as
judged_refused L s u at end r e = go (fault_of L s u) refl e
  where
    go : (o : Option (ℕ → Refusal)) → fault_of L s u ≡ o → judged_by o u at end ≡ Err r → (f : ℕ → Refusal) × (fault_of L s u ≡ Some f) × (r ≡ f at)
    go None q w = clash (cc)
    go (Some f) q w = (f, q, cc)
