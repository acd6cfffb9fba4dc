-- Spot checks of what is printed: the text of document 01, a refusal, and numbers at their ends.
use Rattle.std.specs.Prelude.{◌≡◌, refl, [], ◌∷◌, pos, negsuc}
use Rattle.meaning.specs.Answers.{accepted, ends_inside}
use Rattle.meaning.specs.Expression.{bytes}
use Rattle.meaning.specs.Records.{rec}
use Rattle.meaning.specs.Printed.{digits, decimal, signed_text, text_line, first_line, record_line, record_lines, area_line, printed}

-- "Input `a*b`, line feed, bytes 01 00 02 14 00 15 0A 01 02 1C 04 11 0C prints"
pub example : printed (accepted 4) (rec 0 (pos 2) (pos 10) (pos 6) ∷ rec 0 (pos 5) (pos 6) (pos 10) ∷ rec 1 (pos 6) (pos 2) (pos 5) ∷ rec 1 (pos 10) (pos 5) (pos 2) ∷ []) 12 ≡ bytes "0 4\n0 2 10 6\n0 5 6 10\n1 6 2 5\n1 10 5 2\narea 12\n"
unfolding printed first_line record_lines record_line area_line text_line signed_text decimal digits bytes
example = refl

-- "On a refusal it prints the first line only."
pub refusal : printed (ends_inside 0) (rec 0 (pos 2) (pos 10) (pos 6) ∷ []) 12 ≡ bytes "12 0\n"
unfolding printed first_line text_line decimal digits bytes
refusal = refl

pub ends : (decimal 0 ≡ bytes "0") × (decimal 9 ≡ bytes "9") × (decimal 10 ≡ bytes "10") × (decimal 1000 ≡ bytes "1000") × (decimal 18446744073709551615 ≡ bytes "18446744073709551615") × (signed_text (negsuc 0) ≡ bytes "-1") × (signed_text (negsuc 1073741823) ≡ bytes "-1073741824")
unfolding signed_text decimal digits bytes
ends = (refl, refl, refl, refl, refl, refl, refl)
