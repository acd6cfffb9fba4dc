-- `maskfile::due_at` meets its contract. Assumes nothing.
use mathlib.Core.Path.{sym, ◌∙◌}
use lib.ListN.{length, drop}
use Rattle.maskfile.proofs.Stored.{due_refused, stored_below, due_minus, due_judged}
use Rattle.maskfile.proofs.due_at.Goals as goal

pub returns-in_default : goal.returns-in_default
returns-in_default c = let a = c.args in due_refused (length a.file.now) a.s a.at (drop a.at a.file.now) _ c.number_at-number.ensures _ c.in_default.is

pub returns-then-minus_zero : goal.returns-then-minus_zero
returns-then-minus_zero c = let a = c.args in due_minus (length a.file.now) a.s a.at (drop a.at a.file.now) _ c.number_at-number.ensures _ _ c.in-Ok.is (sym c.minus_zero.ensures ∙ c.if-minus_zero.true)

pub value_of-requires : goal.value_of-requires
value_of-requires c = let a = c.args in (c.requires, stored_below (length a.file.now) a.s a.at (drop a.at a.file.now) _ c.number_at-number.ensures _ _ c.in-Ok.is)

pub returns : goal.returns
returns c = let a = c.args in due_judged (length a.file.now) a.s a.at (drop a.at a.file.now) _ c.number_at-number.ensures _ _ c.in-Ok.is _ _ (sym c.minus_zero.ensures ∙ c.if-minus_zero.false) c.value_of.ensures c.judged.ensures
