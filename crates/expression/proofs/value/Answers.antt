-- `expression::value` meets its contract. Assumes nothing.
use mathlib.Core.Path.{refl}
use mathlib.Core.Logic.{inl, inr}
use Rattle.expression.proofs.Reading.{of_refused, of_got}
use Rattle.expression.proofs.value.Goals as goal

pub returns-in_default : goal.returns-in_default
returns-in_default c = inr (of_refused _ _ c.whole-r.ensures c.in_default.is, refl)

pub returns : goal.returns
returns c = inl (of_got _ _ c.whole-r.ensures c.in-Some.is)
