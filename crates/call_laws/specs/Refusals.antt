-- The rows of run and area, each from what shows it. Assumes nothing.
--
--   call_stops, call_text, call-passes   refusals 1 to 9: from those of the edges, then from those of the text
--   run_refused, run_short, run_written  the outcome of a run
--   area_refused, area_given             the answer of the area call
use Rattle.std.specs.Prelude.{◌≡◌, refl, ℕ, ◌*◌, ◌≤◌, ◌<◌, ℤ, drop}
use Rattle.std.proofs.Math.Path.{ap, subst}
use Rattle.std.proofs.Common.{inl, inr, arith}
use mathlib.Core.List.{List, [], ◌∷◌, ◌++◌, map, append-nil}
use Rattle.std.proofs.Math.ListN.{length}
use Rattle.meaning.specs.Numbers.{limit}
use Rattle.meaning.specs.Answers.{Answer, accepted, Row, First, too_little_room}
use Rattle.meaning.specs.Edges.{edge_rows}
use Rattle.meaning.specs.Expression.{Expr, sum, Is, refusals, Judged}
use Rattle.meaning.specs.Records.{numbers_of}
use Rattle.meaning.specs.Calls.{records_of, area_of, Outcome, outcome, unchanged, call_rows, Short, Recorded, Runs, Areas}
use Rattle.basic_laws.specs.Tables.{Silent, first_stops, first_passes}
use Rattle.laws.specs.Accepting.{Passed, edges_silent}
use Rattle.expression_laws.specs.Meanings.{one_expression}
use Rattle.call_laws.specs.Judging.{call_silent}

-- ---- refusals 1 to 9

module _ (ns : List ℤ) (text : List ℕ) where
  pub call_stops : (a : Answer) → First (edge_rows 7 limit ns) Passed a → (a ≡ accepted 0 → ⊥) → First (call_rows ns text) Passed a
  call_stops a x n = first_stops (edge_rows 7 limit ns) (refusals text) Passed Passed a x n

  pub call_text : (a : Answer) → First (edge_rows 7 limit ns) Passed (accepted 0) → Judged text a → First (call_rows ns text) Passed a
  unfolding Judged
  call_text a x j = first_passes (edge_rows 7 limit ns) (refusals text) Passed Passed (accepted 0) a x (edges_silent 7 limit ns 0) j

  -- ---- run

  module _ (out : List ℤ) where
    lift_stops : (rows : List (Row Answer)) (more : List (Row Outcome)) (Last : Row Outcome) (a : Answer) → First rows Passed a → (a ≡ accepted 0 → ⊥) → First (map (unchanged out) rows ++ more) Last (outcome a out)
    lift_stops [] more Last a x n = absurd (n x)
    lift_stops (row ∷ rows) more Last a (inl x) n = inl (x, refl)
    lift_stops (row ∷ rows) more Last a (inr x) n = inr ((λ o y. x.0 o.answer y.0), lift_stops rows more Last a x.1 n)

    lift_passes : (rows : List (Row Answer)) (more : List (Row Outcome)) (Last : Row Outcome) (o : Outcome) → First rows Passed (accepted 0) → Silent (accepted 0) rows → First more Last o → First (map (unchanged out) rows ++ more) Last o
    lift_passes [] more Last o x s y = y
    lift_passes (row ∷ rows) more Last o (inl x) s y = absurd (s.0 x)
    lift_passes (row ∷ rows) more Last o (inr x) s y = inr ((λ p z. x.0 p.answer z.0), lift_passes rows more Last o x.1 s.1 y)

    pub run_refused : (a : Answer) → First (call_rows ns text) Passed a → (a ≡ accepted 0 → ⊥) → Runs ns text out (outcome a out)
    unfolding Runs
    run_refused a x n = lift_stops (call_rows ns text) (Short ns text out ∷ []) (Recorded ns text out) a x n

    module _ (x : First (call_rows ns text) Passed (accepted 0)) (e : Expr) (is : Is sum text e) where
      pub run_short : length out < 4 * length (records_of ns e) → Runs ns text out (outcome (too_little_room (length (records_of ns e))) out)
      unfolding Runs
      run_short h = lift_passes (call_rows ns text) (Short ns text out ∷ []) (Recorded ns text out) _ x (call_silent ns text 0) (inl (e, is, h, refl))

      pub run_written : 4 * length (records_of ns e) ≤ length out
          → Runs ns text out (outcome (accepted (length (records_of ns e))) (numbers_of (records_of ns e) ++ drop (4 * length (records_of ns e)) out))
      unfolding Runs
      run_written h = lift_passes (call_rows ns text) (Short ns text out ∷ []) (Recorded ns text out) _ x (call_silent ns text 0) (inr (long, (e, is, refl)))
        where
          long : (o : Outcome) → Short ns text out o → ⊥
          long o s = let q = one_expression text s.1 is in omega (arith, s.2, ap (λ (z : Expr). length (records_of ns z)) q)

  -- ---- area

  pub area_refused : (a : Answer) → First (call_rows ns text) Passed a → (a ≡ accepted 0 → ⊥) → Areas ns text a
  unfolding Areas
  area_refused a x n =
      subst (λ (rows : List (Row Answer)). First rows (λ a. (e : Expr) × Is sum text e × (a ≡ accepted (area_of ns e))) a) (append-nil (call_rows ns text))
      (first_stops (call_rows ns text) [] Passed (λ a. (e : Expr) × Is sum text e × (a ≡ accepted (area_of ns e))) a x n)

  pub area_given : First (call_rows ns text) Passed (accepted 0) → (e : Expr) → Is sum text e → Areas ns text (accepted (area_of ns e))
  unfolding Areas
  area_given x e is =
      subst (λ (rows : List (Row Answer)). First rows (λ a. (e : Expr) × Is sum text e × (a ≡ accepted (area_of ns e))) (accepted (area_of ns e))) (append-nil (call_rows ns text))
      (first_passes (call_rows ns text) [] Passed (λ a. (e : Expr) × Is sum text e × (a ≡ accepted (area_of ns e))) (accepted 0) (accepted (area_of ns e)) x (call_silent ns text 0) (e, is, refl))
