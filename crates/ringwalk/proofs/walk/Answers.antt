-- `ringwalk::walk` meets its contract: the beginning of the list that has been read has no faulty number. Assumes nothing.
use mathlib.Core.Path.{sym, ◌∙◌}
use Rattle.ringwalk.specs.Walks.{walks_begins, walks_fault, walks_follows, walks_on, walks_refused, walks_fine, walks_short}
use Rattle.ringwalk.proofs.walk.Goals as goal

pub loop-i-init : goal.loop-i-init
loop-i-init g c = rw c.begin-s.ensures (walks_begins g.M.Made.begins _ _ _ _ c.begin-n.ensures)

pub returns-in_default : goal.returns-in_default
returns-in_default g c = walks_refused g.M.Made.laws _ _ _ _ _ _ c.loop-i.invariant c.loop-i-test.true _ _ _ c.due_in-number.ensures c.in_default.is

pub add-n-requires-clause-follows : goal.add-n-requires-clause-follows
add-n-requires-clause-follows g c = walks_follows g.M.Made.laws _ _ _ _ _ _ c.loop-i.invariant c.loop-i-test.true _ _ _ c.due_in-number.ensures c.in-Ok.is

pub after-s-requires : goal.after-s-requires
after-s-requires g c = walks_fault g.M.Made.laws _ _ _ _ _ _ c.loop-i.invariant c.loop-i-test.true _ _ _ c.due_in-number.ensures c.in-Ok.is

pub loop-i-preserved : goal.loop-i-preserved
loop-i-preserved g c =
    rw c.after-s.ensures
    (walks_on g.M.Made.laws _ _ _ _ _ _ c.loop-i.invariant c.loop-i-test.true _ _ _ c.due_in-number.ensures c.in-Ok.is _ _ c.add-n.ensures.place c.add-n.ensures.wrote)

pub returns-then-may_end : goal.returns-then-may_end
returns-then-may_end g c = walks_fine g.M.Made.laws _ _ _ _ _ _ c.loop-i.invariant c.loop-i-test.false (sym c.may_end.ensures ∙ c.if-may_end.true)

pub returns : goal.returns
returns g c = walks_short g.M.Made.laws _ _ _ _ _ _ c.loop-i.invariant c.loop-i-test.false (sym c.may_end.ensures ∙ c.if-may_end.false)
