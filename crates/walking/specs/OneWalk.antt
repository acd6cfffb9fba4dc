-- What meets the contract of a walk, and what a walk tells of area. Assumes nothing.
--
--   one_walked         ONE ANSWER: walks that meet the contract are equal, and so are the buffers
--   told_all, told_lacks   the answer to what was written
--   cells_found, cells_none   what a walk tells of area: the cells where it came to its end, else the refusal of run; cells_all, cells_short: where records were written, or had too little room
--   stopped            a walk that ends with one of the refusals 1 to 9
use Rattle.std.specs.Prelude.{◌≡◌, List, ℕ, ℤ, Result, Ok, Err}
use Rattle.std.proofs.Common.{sym, ap, ap₂, subst}
use Rattle.meaning.specs.Answers.{Answer, accepted, First, too_little_room}
use Rattle.meaning.specs.Calls.{Outcome, outcome, call_rows, Areas}
use Rattle.answers.specs.declared.Refusal.{Refusal}
use Rattle.answers.specs.declared.Refusal.TheVariants.{TooLittleRoom}
use Rattle.answers.specs.Told.{answer_of, told, told_same, answer_same, never_accepted}
use Rattle.laws.specs.Accepting.{Passed}
use Rattle.call_laws.specs.Judging.{one_run, one_area}
use Rattle.call_laws.specs.Refusals.{run_refused, area_refused}
use Rattle.writing.specs.declared.Found.{Found}
use Rattle.walking.specs.Walks.{run_answer, area_answer, Walks}

-- ---- one answer

found_same : (f g : Found) → f.records ≡ g.records → f.cells ≡ g.cells → f ≡ g
found_same f g a k = ap₂ (λ (r : Result ℕ Refusal) (n : ℕ). record { records = r; cells = n }) a k

answers_same : (v w : Result Found Refusal) → run_answer v ≡ run_answer w → area_answer v ≡ area_answer w → v ≡ w
answers_same (Ok f) (Ok g) a k = ap (λ z. Ok z) (found_same f g (told_same f.records g.records a) (ap (λ (r : Answer). r.value) k))
answers_same (Ok f) (Err s) a k = absurd (never_accepted s f.cells k)
answers_same (Err r) (Ok g) a k = absurd (never_accepted r g.cells (sym k))
answers_same (Err r) (Err s) a k = ap (λ z. Err z) (answer_same r s a)

pub one_walked : (ns : List ℤ) (text : List ℕ) (out out₁ out₂ : List ℤ) (v w : Result Found Refusal) → Walks ns text out out₁ v → Walks ns text out out₂ w → (v ≡ w) × (out₁ ≡ out₂)
one_walked ns text out out₁ out₂ v w A B =
    let o : outcome (run_answer v) out₁ ≡ outcome (run_answer w) out₂ = one_run ns text out _ _ A.run B.run in
    (answers_same v w (ap (λ (x : Outcome). x.answer) o) (one_area ns text _ _ A.area B.area), ap (λ (x : Outcome). x.buffer) o)

-- ---- the answer to what was written

pub told_all : (f : Found) (n : ℕ) → f.records ≡ Ok n → told f.records ≡ accepted n
told_all f n e = ap told e

pub told_lacks : (f : Found) (n : ℕ) → f.records ≡ Err (TooLittleRoom n) → told f.records ≡ too_little_room n
told_lacks f n e = ap told e

-- ---- what a walk tells of area

module _ (ns : List ℤ) (text : List ℕ) (out : List ℤ) {out' : List ℤ} {w : Result Found Refusal} (W : Walks ns text out out' w) where
  pub cells_found : {f : Found} → w ≡ Ok f → Areas ns text (accepted f.cells)
  cells_found e = subst (λ (v : Result Found Refusal). Areas ns text (area_answer v)) e W.area

  pub cells_all : {f : Found} {n : ℕ} → w ≡ Ok f → f.records ≡ Ok n → Areas ns text (accepted f.cells)
  cells_all e _ = cells_found e

  pub cells_short : {f : Found} {n : ℕ} → w ≡ Ok f → f.records ≡ Err (TooLittleRoom n) → Areas ns text (accepted f.cells)
  cells_short e _ = cells_found e

  pub cells_none : {r : Refusal} → w ≡ Err r → Areas ns text (answer_of r)
  cells_none e = subst (λ (v : Result Found Refusal). Areas ns text (area_answer v)) e W.area

-- ---- refusals

pub stopped : (ns : List ℤ) (text : List ℕ) (out : List ℤ) (r : Refusal) → First (call_rows ns text) Passed (answer_of r) → Walks ns text out out (Err r)
stopped ns text out r x = record {
  run = run_refused ns text out (answer_of r) x (λ e. never_accepted r 0 (sym e));
  area = area_refused ns text (answer_of r) x (λ e. never_accepted r 0 (sym e));
}
