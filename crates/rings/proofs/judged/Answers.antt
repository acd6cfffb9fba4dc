-- `rings::judged` meets its contract. Assumes nothing.
use mathlib.Core.Path.{◌≡◌, refl, sym, ◌∙◌}
use Rattle.std.specs.Prelude.{Option, Some, None, Ok, Err, ℕ}
use Rattle.std.proofs.lemmas.Result.{err_from_is_err_and}
use Rattle.answers.specs.declared.Refusal.{Refusal}
use Rattle.numbers.specs.Reading.{Value}
use Rattle.rings.specs.State.{placed, judged_by, judged_as}
use Rattle.rings.proofs.judged.Goals as goal

refused : (o : Option (ℕ → Refusal)) (v at next : ℕ) (f : Refusal) → placed o at ≡ Err f → Err f ≡ judged_by o v at next
refused None v at next f e = absurd (cc)
refused (Some g) v at next f e = let i : g at ≡ f = cc in cc

read : (o : Option (ℕ → Refusal)) (v at next : ℕ) (u : Unit {0}) → placed o at ≡ Ok u → Value v next ≡ judged_by o v at next
read None v at next u e = refl
read (Some g) v at next u e = absurd (cc)

pub returns-in_err-fault : goal.returns-in_err-fault
unfolding judged_as
returns-in_err-fault c =
    let p = err_from_is_err_and c.from_residual.result c.from_residual.ensures.1 in
    rw (p.1, p.2) (refused _ _ _ _ _ (sym c.fault.ensures ∙ c.in_err-fault.was))

pub returns : goal.returns
unfolding judged_as
returns c = read _ _ _ _ _ (sym c.fault.ensures ∙ c.in_ok-fault.was)
