-- The promise of the program's answer: what is left in the output, and that it is the only one. Assumes nothing.
--
--   Answered P before after n   a text of which P holds stands at the front of `after`, n is its length, and the rest of `after` is that of `before`
--   one_printed                 ONE TEXT: what the program prints for an input is one text
--   one_answered                ONE ANSWER: outputs and lengths meeting the promise are equal
--   Answers P before after r    what the parts of the program answer: such a text, or a refusal whose first line is one, and nothing is stored
--   answered_as, answers_as     a text of which P holds is one of which Q holds
--   answered_fits               the n bytes stand in `after`
use Rattle.std.specs.Prelude.{◌≡◌, Result, Ok, Err, List, [], ◌∷◌, map, ℕ, ◌≤◌, ◌<◌, ℤ, length}
use Rattle.std.proofs.Common.{sym, ap, ◌∙◌, subst, arith, length-append}
use Rattle.meaning.specs.Numbers.{limit}
use Rattle.meaning.specs.Answers.{Answer, accepted, Row, First, file_too_long, too_little_room}
use Rattle.meaning.specs.Expression.{Expr}
use Rattle.meaning.specs.Calls.{records_of, area_of, call_rows}
use Rattle.meaning.specs.Rings.{Ring, ring_edges}
use Rattle.meaning.specs.MaskFile.{five, longest}
use Rattle.meaning.specs.Printed.{first_line, printed}
use Rattle.meaning.specs.Program.{text_of, file_of, refuses, file_rows, NoRoom, ring_rows, Shown, Prints}
use Rattle.answers.specs.declared.Refusal.{Refusal}
use Rattle.answers.specs.Told.{answer_of}
use Rattle.basic_laws.specs.Tables.{Single, Singles, single_given, one_answer, singles_append}
use Rattle.expression_laws.specs.Meanings.{one_expression}
use Rattle.call_laws.specs.Judging.{call_single}
use Rattle.ring_laws.specs.Calls.{some, holds, file_fault_one}
use Rattle.mask_laws.specs.Promises.{told_by_file}
use Rattle.printed_laws.specs.Stores.{Front, one_front}

pub record Answered (P : Row (List ℕ)) (before after : List ℕ) (n : ℕ) : Type 0 where
  pub text : List ℕ
  pub is : P text
  pub front : Front before text after n

abbrev pub Answers : Row (List ℕ) → List ℕ → List ℕ → Result ℕ Refusal → Type 0
Answers P before after (Ok n) = Answered P before after n
Answers P before after (Err refusal) = P (first_line (answer_of refusal)) × (after ≡ before)

pub answered_as : {P Q : Row (List ℕ)} {before after : List ℕ} {n : ℕ} → ((t : List ℕ) → P t → Q t) → Answered P before after n → Answered Q before after n
answered_as f a = record { text = a.text; is = f a.text a.is; front = a.front }

pub answers_as : {P Q : Row (List ℕ)} (before after : List ℕ) (r : Result ℕ Refusal) → ((t : List ℕ) → P t → Q t) → Answers P before after r → Answers Q before after r
answers_as before after (Ok n) f a = answered_as f a
answers_as before after (Err refusal) f a = (f (first_line (answer_of refusal)) a.0, a.1)

pub answered_fits : {P : Row (List ℕ)} {before after : List ℕ} {n : ℕ} → Answered P before after n → n ≤ length after
answered_fits {P} {before} {after} {n} a = omega (arith, a.front.size, simp length-append at (ap length a.front.buffer))

-- ---- one text

refuses_single : (rows : List (Row Answer)) → Singles rows → Singles (map refuses rows)
refuses_single [] s = tt
refuses_single (row ∷ rows) s = ((λ t u x y. x.2 ∙ ap first_line (s.0 x.0 y.0 x.1 y.1) ∙ sym y.2), refuses_single rows s.1)

module _ (ns : List ℤ) (text : List ℕ) where
  no_room_single : Single (NoRoom ns text)
  no_room_single a b x y = x.3 ∙ ap (λ (e : Expr). too_little_room (length (records_of ns e))) (one_expression text x.1 y.1) ∙ sym y.3

  shown_single : Single (Shown ns text)
  shown_single t u x y =
      x.2 ∙ ap (λ (e : Expr). printed (accepted (length (records_of ns e))) (records_of ns e) (area_of ns e)) (one_expression text x.1 y.1) ∙ sym y.2

  edges_one : Single (First (map refuses (ring_rows ns text)) (Shown ns text))
  edges_one =
      one_answer (map refuses (ring_rows ns text)) (Shown ns text)
      (refuses_single (ring_rows ns text) (singles_append (call_rows ns text) (NoRoom ns text ∷ []) (call_single ns text) (no_room_single, tt))) shown_single

pub one_printed : (input : List ℕ) → Single (Prints input)
unfolding Prints
one_printed input =
    one_answer (map refuses (file_rows input)) _
    (refuses_single (file_rows input) (single_given (65536 < length input) file_too_long, (single_given (longest < length (file_of input)) file_too_long, (file_fault_one five limit some holds (file_of input), tt))))
    (λ t u x y. edges_one (ring_edges y.0) (text_of input) t u (subst (λ (rs : List Ring). First (map refuses (ring_rows (ring_edges rs) (text_of input))) (Shown (ring_edges rs) (text_of input)) t) (told_by_file x.0 y.0 x.1 y.1 (sym x.2 ∙ y.2)) x.3) y.3)

pub one_answered : (input before a b : List ℕ) (m n : ℕ) → Answered (Prints input) before a m → Answered (Prints input) before b n → (a ≡ b) × (m ≡ n)
one_answered input before a b m n p q =
    one_front (subst (λ (t : List ℕ). Front before t a m) (one_printed input p.text q.text p.is q.is) p.front) q.front
