-- What a walk tells: the outcome of run, and the answer of area.
--
--   run_answer w      the answer of run: to what was written, or to too little room; else the refusal
--   area_answer w     the answer of area: the cells where the walk came to its end; else the refusal
--   Walks ns text out out' w   w tells the outcome of run and the answer of area
use Rattle.std.specs.Prelude.{List, ℕ, ℤ, Result, Ok, Err}
use Rattle.meaning.specs.Answers.{Answer, accepted}
use Rattle.meaning.specs.Calls.{outcome, Runs, Areas}
use Rattle.answers.specs.declared.Refusal.{Refusal}
use Rattle.answers.specs.Told.{answer_of, told}
use Rattle.writing.specs.declared.Found.{Found}

abbrev pub run_answer : Result Found Refusal → Answer
run_answer (Ok found) = told found.records
run_answer (Err refusal) = answer_of refusal

abbrev pub area_answer : Result Found Refusal → Answer
area_answer (Ok found) = accepted found.cells
area_answer (Err refusal) = answer_of refusal

pub record Walks (ns : List ℤ) (text : List ℕ) (out out' : List ℤ) (w : Result Found Refusal) : Type 0 where
  pub run : Runs ns text out (outcome (run_answer w) out')
  pub area : Areas ns text (area_answer w)
