-- `program::answer_file` meets its contract: a file that is refused, or the edges of its ring list. Assumes nothing.
use Rattle.std.proofs.Common.{refl, sym, arith}
use Rattle.std.proofs.Math.Nat.{sub-zero}
use Rattle.std.proofs.lemmas.Result.{err_from_is_err_and}
use Rattle.answers.specs.Told.{never_accepted}
use Rattle.program.specs.Files.{read_refused, read_most, made_accepted, made_most, read_edges, file_edges}
use Rattle.program.specs.Answered.{answers_as}
use Rattle.program.proofs.answer_file.Goals as goal

pub returns-in_err-n : goal.returns-in_err-n
returns-in_err-n c =
    let p = err_from_is_err_and c.from_residual.result c.from_residual.ensures.1 in
    rw (p.1, p.2) (read_refused _ _ _ _ _ refl c.in_err-n.ensures, refl)

pub slice_bounds-edges_of-end : goal.slice_bounds-edges_of-end
slice_bounds-edges_of-end c = omega (arith, read_most _ _ _ _ _ refl c.in_ok-n.ensures, c.read.auto.rings)

-- the list of a file has edges
pub returns-in_err-m : goal.returns-in_err-m
returns-in_err-m c =
    let a = made_accepted _ _ _ _ _ refl c.in_ok-n.ensures _ _ refl _ (rw sub-zero at c.in_err-m.ensures) in
    absurd (never_accepted _ a.0 (sym a.1))

pub slice_bounds-answer_edges-end : goal.slice_bounds-answer_edges-end
slice_bounds-answer_edges-end c =
    omega (arith, made_most _ _ _ _ _ refl c.in_ok-n.ensures _ _ refl _ (rw sub-zero at c.in_ok-m.ensures), c.edges_of.auto.edges)

pub returns : goal.returns
returns c =
    answers_as _ _ _
    (λ t x. file_edges _ _ _ t (read_edges _ _ _ _ _ refl c.in_ok-n.ensures _ _ refl _ (rw sub-zero at c.in_ok-m.ensures)) x)
    (rw sub-zero at c.answer_edges.ensures)
