-- From the calls run and area to what is printed over an edge list. Assumes nothing.
--
--   edges_refused, run_refused   a run that refuses
--   edges_most      an accepted run has at most 2,048 records
--   edges_shown     an accepted run, and the area after it
use Rattle.std.specs.Prelude.{◌≡◌, refl, List, [], ◌∷◌, ◌++◌, map, ℕ, ◌*◌, ◌≤◌, ℤ, length, take, drop}
use Rattle.std.proofs.Common.{ap, subst, inl, inr, arith, take_at}
use Rattle.meaning.specs.Answers.{Answer, answer, accepted, Row, First}
use Rattle.meaning.specs.Expression.{Expr}
use Rattle.meaning.specs.Records.{Record, rec, numbers_of}
use Rattle.meaning.specs.Calls.{records_of, area_of, Outcome, outcome, unchanged, call_rows, Short, Recorded, Runs, Areas}
use Rattle.meaning.specs.Printed.{first_line, printed}
use Rattle.meaning.specs.Program.{refuses, NoRoom, Shown}
use Rattle.answers.specs.declared.Refusal.{Refusal}
use Rattle.answers.specs.Told.{answer_of, refusal_number}
use Rattle.basic_laws.specs.Tables.{Silent}
use Rattle.expression_laws.specs.Meanings.{one_expression}
use Rattle.printed_laws.specs.Lines.{accepted_text}
use Rattle.printed_laws.proofs.Lines.{printed_accepted}
use Rattle.call_laws.specs.Judging.{call_silent, AcceptedRun, run_accepted, one_area}
use Rattle.call_laws.specs.Refusals.{area_given}
use Rattle.program.specs.Parts.{OfEdges}

numbers_length : (rs : List (Record ℤ)) → length (numbers_of rs) ≡ 4 * length rs
unfolding numbers_of
numbers_length [] = refl
numbers_length (rec kind p f t ∷ rs) = omega (arith, numbers_length rs)

shown_text : (v : ℕ) (ns : List ℤ) (n : ℕ) (rs : List (Record ℤ)) (m : ℕ) → v ≡ length rs → ns ≡ numbers_of rs → n ≡ m → accepted_text v ns n ≡ printed (accepted (length rs)) rs m
shown_text v ns n rs m a b c = rw (a, b, c) (printed_accepted (length rs) rs m)

-- the run is lent room for the numbers of 2,048 records
module _ (ns : List ℤ) (text : List ℕ) (out after : List ℤ) (room : length out ≡ 8192) where
  rows_refuse : (rows : List (Row Answer)) (k v : ℕ) → (k ≡ 0 → ⊥) → First (map (unchanged out) rows ++ (Short ns text out ∷ [])) (Recorded ns text out) (outcome (answer k v) after)
      → First (map refuses (rows ++ (NoRoom ns text ∷ []))) (Shown ns text) (first_line (answer k v))
  rows_refuse [] k v n (inl (e, is, h, o)) = inl (answer k v, (e, is, omega arith, ap (λ (q : Outcome). q.answer) o), refl)
  rows_refuse [] k v n (inr (s, (e, is, o))) = absurd (n (ap (λ (q : Outcome). q.answer.number) o))
  rows_refuse (row ∷ rows) k v n (inl x) = inl (answer k v, x.0, refl)
  rows_refuse (row ∷ rows) k v n (inr x) = inr ((λ s y. x.0 (outcome y.0 out) (y.1, refl)), rows_refuse rows k v n x.1)

  pub edges_refused : (k v : ℕ) → (k ≡ 0 → ⊥) → Runs ns text out (outcome (answer k v) after) → OfEdges ns text (first_line (answer k v))
  unfolding OfEdges Runs
  edges_refused k v n x = rows_refuse (call_rows ns text) k v n x

  pub run_refused : (r : Refusal) → Runs ns text out (outcome (answer_of r) after) → OfEdges ns text (first_line (answer_of r))
  run_refused r x = edges_refused (answer_of r).number (answer_of r).value (refusal_number r) x

  rows_pass : (rows : List (Row Answer)) (t : List ℕ) → First rows (λ r. r ≡ accepted 0) (accepted 0) → Silent (accepted 0) rows → First (map refuses (NoRoom ns text ∷ [])) (Shown ns text) t
      → First (map refuses (rows ++ (NoRoom ns text ∷ []))) (Shown ns text) t
  rows_pass [] t p s x = x
  rows_pass (row ∷ rows) t (inl p) s x = absurd (s.0 p)
  rows_pass (row ∷ rows) t (inr p) s x = inr ((λ u y. p.0 y.0 y.1), rows_pass rows t p.1 s.1 x)

  module _ (v : ℕ) (r : AcceptedRun ns text out v after) where
    rows_room : (t : List ℕ) → refuses (NoRoom ns text) t → ⊥
    rows_room t (a, (e, is, h, _), _) = omega (arith, r.room, ap (λ (z : Expr). length (records_of ns z)) (one_expression text is r.is))

    -- the numbers that stand at the front of the buffer
    front : take (v * 4) after ≡ numbers_of (records_of ns r.expr)
    front = rw r.buffer (take_at (numbers_of (records_of ns r.expr)) (drop (4 * length (records_of ns r.expr)) out) (v * 4) (omega (arith, numbers_length (records_of ns r.expr), r.count)))

    area_is : (b : Answer) → Areas ns text b → b.value ≡ area_of ns r.expr
    area_is b y = ap (λ (a : Answer). a.value) (one_area ns text b (accepted (area_of ns r.expr)) y (area_given ns text r.passed r.expr r.is))

    run_shown : (b : Answer) → Areas ns text b → OfEdges ns text (accepted_text v (take (v * 4) after) b.value)
    unfolding OfEdges
    run_shown b y =
        rows_pass (call_rows ns text) _ r.passed (call_silent ns text 0)
        (inr (rows_room, (r.expr, r.is, shown_text v (take (v * 4) after) b.value (records_of ns r.expr) (area_of ns r.expr) r.count front (area_is b y))))

  module _ (k v : ℕ) (z : k ≡ 0) (x : Runs ns text out (outcome (answer k v) after)) where
    accepts : AcceptedRun ns text out v after
    accepts = run_accepted ns text out after v (subst (λ (n : ℕ). Runs ns text out (outcome (answer n v) after)) z x)

    pub edges_most : v ≤ 2048
    edges_most = let r = accepts in omega (arith, r.count, r.room)

    pub edges_shown : (b : Answer) → Areas ns text b → OfEdges ns text (accepted_text v (take (v * 4) after) b.value)
    edges_shown b y = run_shown v accepts b y
