-- `engine::walk` meets its contract: a list that is refused is refused by the call. Assumes nothing.
use Rattle.std.specs.Prelude.{List, ℕ, ℤ, Err}
use Rattle.std.proofs.Common.{refl}
use Rattle.std.proofs.lemmas.Result.{err_from_is_err_and}
use Rattle.meaning.specs.Numbers.{limit}
use Rattle.meaning.specs.Answers.{First}
use Rattle.laws.specs.Accepting.{Passed, refused}
use Rattle.answers.specs.declared.Refusal.{Refusal}
use Rattle.answers.specs.Told.{answer_of, refusal_number}
use Rattle.call_laws.specs.Refusals.{call_stops}
use Rattle.edges.specs.Answering.{list_rows}
use Rattle.edges.specs.Refusals.{refused_answer}
use Rattle.walking.specs.Walks.{Walks}
use Rattle.walking.specs.OneWalk.{stopped}
use Rattle.engine.proofs.walk.Goals as goal

edges_stopped : (ns : List ℤ) (text : List ℕ) (out : List ℤ) (r : Refusal) → First (list_rows 7 limit ns) Passed (answer_of r) → Walks ns text out out (Err r)
edges_stopped ns text out r J =
    stopped ns text out r (call_stops ns text (answer_of r) (refused_answer limit ns (Err r) J r refl) (refused (answer_of r) 0 (refusal_number r)))

pub returns-in_err-judge : goal.returns-in_err-judge
returns-in_err-judge c =
    let p = err_from_is_err_and c.from_residual.result c.from_residual.ensures.1 in
    rw (p.1, p.2) (edges_stopped c.args.edges.now c.args.text.now c.args.records.now _ c.in_err-judge.ensures)
