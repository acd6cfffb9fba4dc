-- The tables of run and area: that answers meeting a contract are equal, and what acceptance says. Assumes nothing.
--
--   text_silent, call_silent   no refusal of a text, and none of the refusals 1 to 9 of a call, is an acceptance
--   call_single             each of the refusals 1 to 9 says at most one answer
--   one_run, one_area       ONE ANSWER: outcomes of a run, and answers of the area call, that meet the contract are equal
--   AcceptedRun ..          what acceptance says of a run
--   run_accepted   what acceptance of the whole call says
use Rattle.std.proofs.Math.Path.{◌≡◌, sym, ap}
use Rattle.std.specs.Prelude.{refl, List, [], ◌∷◌, ◌++◌, map, ℕ, ◌*◌, ◌≤◌, ◌<◌, ℤ, drop}
use Rattle.std.proofs.Common.{ap₂, ◌∙◌, inl, inr}
use native.Mathlib.Omega.{arith}
use Rattle.std.proofs.Math.Decide.{dec_lt}
use Rattle.std.proofs.Math.ListN.{length}
use Rattle.meaning.specs.Numbers.{limit}
use Rattle.meaning.specs.Answers.{Answer, accepted, Row, First, too_little_room, expression_length, too_deep, not_in_grammar, holds_on_nothing}
use Rattle.meaning.specs.Edges.{edge_rows}
use Rattle.meaning.specs.Expression.{Expr, sum, Is, refusals}
use Rattle.meaning.specs.Records.{numbers_of}
use Rattle.meaning.specs.Calls.{records_of, area_of, Outcome, outcome, unchanged, call_rows, Short, Recorded, Runs, Areas}
use Rattle.basic_laws.specs.Tables.{Single, Singles, single_given, one_answer, Silent, silent_append, singles_append}
use Rattle.laws.specs.Accepting.{not_accepted, edges_silent, edges_single}
use Rattle.expression_laws.specs.Meanings.{one_expression}

-- ---- no refusal is an acceptance

pub text_silent : (text : List ℕ) (v : ℕ) → Silent (accepted v) (refusals text)
text_silent text v =
    (not_accepted expression_length v _ (λ z. omega arith), (not_accepted too_deep v _ (λ z. omega arith), (not_accepted not_in_grammar v _ (λ z. omega arith), (not_accepted holds_on_nothing v _ (λ z. omega arith), tt))))

pub call_silent : (ns : List ℤ) (text : List ℕ) (v : ℕ) → Silent (accepted v) (call_rows ns text)
call_silent ns text v = silent_append (accepted v) (edge_rows 7 limit ns) (refusals text) (edges_silent 7 limit ns v) (text_silent text v)

-- ---- one answer

pub call_single : (ns : List ℤ) (text : List ℕ) → Singles (call_rows ns text)
call_single ns text =
    singles_append (edge_rows 7 limit ns) (refusals text) (edges_single 7 limit ns)
    (single_given _ expression_length, (single_given _ too_deep, (single_given _ not_in_grammar, (single_given _ holds_on_nothing, tt))))

unchanged_single : (out : List ℤ) (rows : List (Row Answer)) → Singles rows → Singles (map (unchanged out) rows)
unchanged_single out [] s = tt
unchanged_single out (row ∷ rows) s = ((λ o p x y. ap₂ outcome (s.0 o.answer p.answer x.0 y.0) (x.1 ∙ sym y.1)), unchanged_single out rows s.1)

-- the rows let an acceptance pass, and a later row or the end of the table says what the outcome is
unchanged_open : (out after : List ℤ) (rows : List (Row Answer)) (more : List (Row Outcome)) (Last : Row Outcome) (v : ℕ) → Silent (accepted v) rows → First (map (unchanged out) rows ++ more) Last (outcome (accepted v) after)
    → First rows (λ r. r ≡ accepted 0) (accepted 0) × First more Last (outcome (accepted v) after)
unchanged_open out after [] more Last v s x = (refl, x)
unchanged_open out after (row ∷ rows) more Last v s (inl x) = absurd (s.0 x.0)
unchanged_open out after (row ∷ rows) more Last v s (inr x) =
    let y = unchanged_open out after rows more Last v s.1 x.1 in
    (inr ((λ a z. x.0 (outcome a out) (z, refl)), y.0), y.1)

-- no refusal applies, and the records and their number are those of the expression e
pub record AcceptedRun (ns : List ℤ) (text : List ℕ) (out : List ℤ) (v : ℕ) (after : List ℤ) : Type 0 where
  pub passed : First (call_rows ns text) (λ r. r ≡ accepted 0) (accepted 0)
  pub expr : Expr
  pub is : Is sum text expr
  pub count : v ≡ length (records_of ns expr)
  pub room : 4 * length (records_of ns expr) ≤ length out
  pub buffer : after ≡ numbers_of (records_of ns expr) ++ drop (4 * length (records_of ns expr)) out

module _ (ns : List ℤ) (text : List ℕ) where
  pub one_run : (out : List ℤ) → Single (Runs ns text out)
  unfolding Runs
  one_run out =
      one_answer (map (unchanged out) (call_rows ns text) ++ (Short ns text out ∷ [])) (Recorded ns text out)
      (singles_append (map (unchanged out) (call_rows ns text)) (Short ns text out ∷ []) (unchanged_single out (call_rows ns text) (call_single ns text)) (short, tt)) written
    where
      short : Single (Short ns text out)
      short o p x y = let e = one_expression text x.1 y.1 in x.3 ∙ ap (λ (z : Expr). outcome (too_little_room (length (records_of ns z))) out) e ∙ sym y.3

      written : Single (Recorded ns text out)
      written o p x y =
          let e = one_expression text x.1 y.1 in
          x.2 ∙ ap (λ (z : Expr). outcome (accepted (length (records_of ns z))) (numbers_of (records_of ns z) ++ drop (4 * length (records_of ns z)) out)) e ∙ sym y.2

  pub one_area : Single (Areas ns text)
  unfolding Areas
  one_area =
      one_answer (call_rows ns text) (λ a. (e : Expr) × Is sum text e × (a ≡ accepted (area_of ns e))) (call_single ns text)
      (λ a b x y. let e = one_expression text x.1 y.1 in x.2 ∙ ap (λ (z : Expr). accepted (area_of ns z)) e ∙ sym y.2)

  -- ---- acceptance

  pub run_accepted : (out after : List ℤ) (v : ℕ) → Runs ns text out (outcome (accepted v) after) → AcceptedRun ns text out v after
  unfolding Runs
  run_accepted out after v x = let y = unchanged_open out after (call_rows ns text) (Short ns text out ∷ []) (Recorded ns text out) v (call_silent ns text v) x in go y.0 y.1
    where
      go : First (call_rows ns text) (λ r. r ≡ accepted 0) (accepted 0) → First (Short ns text out ∷ []) (Recorded ns text out) (outcome (accepted v) after) → AcceptedRun ns text out v after
      go p (inl (e, is, h, o)) = let z : ◌≡◌ {A = ℕ} 0 10 = ap (λ (q : Outcome). q.answer.number) o in absurd (omega arith)
      go p (inr (n, (e, is, o))) = record {
        passed = p;
        expr = e;
        is = is;
        count = ap (λ (q : Outcome). q.answer.value) o;
        room = room (dec_lt (length out) (4 * length (records_of ns e)));
        buffer = ap (λ (q : Outcome). q.buffer) o;
      }
        where
          room : Dec (length out < 4 * length (records_of ns e)) → 4 * length (records_of ns e) ≤ length out
          room (yes h) = absurd (n (outcome (too_little_room (length (records_of ns e))) out) (e, is, h, refl))
          room (no h) = omega arith
