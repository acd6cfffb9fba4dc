-- Lines over plain numbers, four to a record: their numbers stand in the order of the record's. Assumes nothing.
--
--   printed_accepted        `accepted_text` is what the program prints of records that have these numbers
--   record_words            the line of a record, each word with the byte after it
use Rattle.std.specs.Prelude.{◌≡◌, refl, List, [], ◌∷◌, ◌++◌, ℕ, ◌+◌, ℤ, pos, get_or}
use Rattle.std.proofs.Common.{sym, ap, append_assoc}
use Rattle.meaning.specs.Answers.{accepted}
use Rattle.meaning.specs.Records.{Record, rec, numbers_of}
use Rattle.meaning.specs.Printed.{signed_text, text_line, first_line, record_line, record_lines, area_line, printed}
use Rattle.printed_laws.specs.Lines.{accepted_text, line_at, number_line, number_lines}

number_lines_of : (rs : List (Record ℤ)) → number_lines (numbers_of rs) ≡ record_lines rs
unfolding numbers_of number_lines number_line record_lines record_line signed_text
number_lines_of [] = refl
number_lines_of (rec kind p f t ∷ rs) = ap (λ (u : List ℕ). record_line (rec kind p f t) ++ u) (number_lines_of rs)

pub printed_accepted : (v : ℕ) (rs : List (Record ℤ)) (n : ℕ) → accepted_text v (numbers_of rs) n ≡ printed (accepted v) rs n
unfolding accepted_text printed
printed_accepted v rs n = ap (λ (t : List ℕ). first_line (accepted v) ++ (t ++ area_line n)) (number_lines_of rs)

pub record_words : (ns : List ℤ) (j : ℕ) → line_at ns j ≡ (signed_text (get_or ns j (pos 0)) ++ (32 ∷ [])) ++ ((signed_text (get_or ns (j + 1) (pos 0)) ++ (32 ∷ [])) ++ ((signed_text (get_or ns (j + 2) (pos 0)) ++ (32 ∷ [])) ++ (signed_text (get_or ns (j + 3) (pos 0)) ++ (10 ∷ []))))
unfolding line_at number_line text_line
record_words ns j = sym (simp append_assoc)
