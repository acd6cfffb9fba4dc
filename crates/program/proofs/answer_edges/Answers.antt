-- `program::answer_edges` meets its contract: a run that refuses, or an accepted one with its area. Assumes nothing.
use Rattle.std.proofs.Common.{refl, ◌≤◌, rules, arith}
use Rattle.std.proofs.Math.Nat.{sub-zero}
use Rattle.std.proofs.lemmas.Result.{err_from_is_err_and}
use Rattle.program.specs.Edges.{run_refused, edges_most, edges_shown}
use Rattle.program.proofs.answer_edges.Goals as goal

pub returns-in_err-found : goal.returns-in_err-found
returns-in_err-found c =
    let p = err_from_is_err_and c.from_residual.result c.from_residual.ensures.1 in
    rw (p.1, p.2) (run_refused _ _ _ _ refl _ c.in_err-found.ensures.run, refl)

pub returns-in_err-count : goal.returns-in_err-count
returns-in_err-count c =
    let p = err_from_is_err_and c.from_residual-in_err-count.result c.from_residual-in_err-count.ensures.1 in
    rw (p.1, p.2) (run_refused _ _ _ _ refl _ (rw c.in_err-count.was at c.in_ok-found.ensures.run), refl)

pub overflow_mul-n : goal.overflow_mul-n
overflow_mul-n c =
    let h : c.in_ok-count.count ≤ 2048 = edges_most _ _ _ _ refl 0 _ refl (rw c.in_ok-count.was at c.in_ok-found.ensures.run) in
    search rules

pub slice_bounds-accepted-end-2 : goal.slice_bounds-accepted-end-2
slice_bounds-accepted-end-2 c =
    let h : c.in_ok-count.count ≤ 2048 = edges_most _ _ _ _ refl 0 _ refl (rw c.in_ok-count.was at c.in_ok-found.ensures.run) in
    omega (arith, c.walk.auto.records)

pub returns : goal.returns
returns c =
    let w = c.in_ok-found.ensures in
    record { text = _; is = edges_shown _ _ _ _ refl 0 _ refl (rw c.in_ok-count.was at w.run) _ w.area; front = rw sub-zero at c.accepted.ensures }
