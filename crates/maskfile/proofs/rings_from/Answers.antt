-- `maskfile::rings_from` meets its contract: the beginning of the file that has been read has no faulty number. Assumes nothing.
use native.Mathlib.Omega.{arith}
use mathlib.Core.Path.{refl, sym, ◌∙◌}
use Rattle.maskfile.proofs.Walk.{reads_begins, reads_sane, reads_fault, reads_key, reads_value, reads_further, reads_on, reads_refused, reads_fine, reads_short}
use Rattle.maskfile.proofs.rings_from.Goals as goal

pub loop-at-init : goal.loop-at-init
loop-at-init c = rw c.begin-s.ensures (reads_begins _ _ _ c.requires.0 c.requires.1.0 c.requires.1.1)

pub due_at-number-requires : goal.due_at-number-requires
due_at-number-requires c = reads_sane _ _ _ _ _ _ c.loop-at.invariant

pub returns-in_default : goal.returns-in_default
returns-in_default c = reads_refused _ _ _ _ _ _ c.loop-at.invariant _ _ (λ i. (c.type_inv.file i).fits) c.loop-at-test.true c.due_at-number.ensures c.in_default.is _

pub lifted-requires : goal.lifted-requires
lifted-requires c = reads_value _ _ _ _ _ _ c.loop-at.invariant _ _ _ c.due_at-number.ensures c.in-Ok.is

pub put-requires : goal.put-requires
put-requires c = reads_key _ _ _ _ _ _ c.loop-at.invariant _ _ _ c.due_at-number.ensures c.in-Ok.is _ c.lifted.ensures

pub after-s-requires : goal.after-s-requires
after-s-requires c = reads_fault _ _ _ _ _ _ c.loop-at.invariant _ _ _ c.due_at-number.ensures c.in-Ok.is

pub loop-at-smaller : goal.loop-at-smaller
loop-at-smaller c = omega (arith, reads_further _ _ _ _ _ _ c.loop-at.invariant _ _ _ c.due_at-number.ensures c.in-Ok.is)

pub loop-at-preserved : goal.loop-at-preserved
loop-at-preserved c = rw c.after-s.ensures (reads_on _ _ _ _ _ _ c.loop-at.invariant _ _ _ c.due_at-number.ensures c.in-Ok.is _ _ _ (λ i. (c.type_inv.file i).fits) c.lifted.ensures refl c.put.ensures)

pub returns-then-may_end : goal.returns-then-may_end
returns-then-may_end c = reads_fine _ _ _ _ _ _ c.loop-at.invariant c.loop-at-test.false (sym c.may_end.ensures ∙ c.if-may_end.true)

pub returns : goal.returns
returns c = reads_short _ _ _ _ _ _ c.loop-at.invariant c.loop-at-test.false (sym c.may_end.ensures ∙ c.if-may_end.false)
