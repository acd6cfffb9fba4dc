-- `maskfile::read` meets its contract. Assumes nothing.
use mathlib.Core.Path.{refl}
use Rattle.std.proofs.lemmas.Result.{err_from_is_err_and}
use Rattle.ring_laws.specs.Calls.{read_long}
use Rattle.reading_laws.specs.OutcomeLaws.{file_table, settled_refused, made_refused, made_done}
use Rattle.maskfile.proofs.read.Goals as goal

pub returns-then-file-gt-LONGEST : goal.returns-then-file-gt-LONGEST
returns-then-file-gt-LONGEST c = read_long _ _ c.if-file-gt-LONGEST.true

pub returns-in_err-settled : goal.returns-in_err-settled
returns-in_err-settled c =
    let p = err_from_is_err_and c.from_residual.result c.from_residual.ensures.1 in
    settled_refused _ (λ n. refl) (file_table _ c.args.rings.now c.if-file-gt-LONGEST.false) _ _ _ _ c.list_from.ensures c.settled.ensures _ _ c.in_err-settled.was (rw (p.1, p.2))

pub returns-in_err-written : goal.returns-in_err-written
returns-in_err-written c = made_refused _ (λ n. refl) (file_table _ c.args.rings.now c.if-file-gt-LONGEST.false) _ _ _ _ c.list_from.ensures c.settled.ensures _ c.in_ok-settled.was _ _ _ _ c.list_from-2.ensures c.in_err-written.was

pub returns : goal.returns
returns c = made_done _ (λ n. refl) (file_table _ c.args.rings.now c.if-file-gt-LONGEST.false) _ _ _ _ c.list_from.ensures c.settled.ensures _ c.in_ok-settled.was _ _ _ _ c.list_from-2.ensures c.in_ok-written.was refl
