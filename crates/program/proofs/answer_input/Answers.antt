-- `program::answer_input` meets its contract: the expression and the file are what stands before and after the first line feed. Assumes nothing.
use Rattle.std.proofs.Common.{refl}
use Rattle.program.specs.Split.{placed_at, missing_at, text_part, file_part, text_all, file_empty}
use Rattle.program.specs.Parts.{printed_long, printed_parts}
use Rattle.program.specs.Answered.{answers_as}
use Rattle.program.proofs.answer_input.Goals as goal

pub returns-then-input-gt-LONGEST : goal.returns-then-input-gt-LONGEST
returns-then-input-gt-LONGEST c = (printed_long _ c.if-input-gt-LONGEST.true, refl)

pub returns-in-Some : goal.returns-in-Some
returns-in-Some c =
    let p = placed_at _ _ c.in-Some.ensures in
    answers_as _ _ _ (λ t x. printed_parts _ t _ _ c.if-input-gt-LONGEST.false (file_part _ _ p.1) (text_part _ _ p.1) x) c.answer_file.ensures

pub returns-in-None : goal.returns-in-None
returns-in-None c =
    let p = missing_at _ c.in-None.ensures in
    answers_as _ _ _ (λ t x. printed_parts _ t _ _ c.if-input-gt-LONGEST.false (file_empty _ p) (text_all _ p) x) c.answer_file-in-None.ensures
