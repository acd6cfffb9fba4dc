-- `ringwalk::make` meets its contract. Assumes nothing.
use mathlib.Core.Path.{refl}
use Rattle.std.proofs.lemmas.Result.{err_from_is_err_and}
use Rattle.reading_laws.specs.OutcomeLaws.{list_table, settled_refused, made_refused, made_done}
use Rattle.ringwalk.proofs.make.Goals as goal

pub returns-in_err-settled : goal.returns-in_err-settled
returns-in_err-settled g c =
    let p = err_from_is_err_and c.from_residual.result c.from_residual.ensures.1 in
    settled_refused _ (λ n. refl) (list_table g.M.Made.make _ c.args.out.now) _ _ _ _ c.walk.ensures c.settled.ensures _ _ c.in_err-settled.was (rw (p.1, p.2))

pub returns-in_err-written : goal.returns-in_err-written
returns-in_err-written g c = made_refused _ (λ n. refl) (list_table g.M.Made.make _ c.args.out.now) _ _ _ _ c.walk.ensures c.settled.ensures _ c.in_ok-settled.was _ _ _ _ c.walk-2.ensures c.in_err-written.was

pub returns : goal.returns
returns g c = made_done _ (λ n. refl) (list_table g.M.Made.make _ c.args.out.now) _ _ _ _ c.walk.ensures c.settled.ensures _ c.in_ok-settled.was _ _ _ _ c.walk-2.ensures c.in_ok-written.was refl
