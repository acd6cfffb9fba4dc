-- Lines over plain numbers, four to a record, as a buffer of records holds them. Assumes nothing.
--
--   number_line a b c d      the line of four numbers
--   line_at ns j             that of the four numbers from place j on
--   number_lines ns          the lines of a list of numbers, four to a line
--   accepted_text v ns n     the text of the answer 0 with the value v, the records' numbers ns and n cells
--   printed_refused         a refusal is printed as its first line
--   lines_none, lines_more  the lines from place j on, where fewer than four numbers are left, and where not
--   first_words, area_words   a line, each word with the byte after it
--
-- What rests on the order of a line's numbers is in proofs/Lines.antt.
use Rattle.std.specs.Prelude.{◌≡◌, refl, List, [], ◌∷◌, ◌++◌, ℕ, zero, suc, ◌+◌, ◌-◌, ◌≤◌, ◌<◌, ℤ, pos, length, drop, get_or}
use Rattle.std.proofs.Common.{ap, ◌∙◌, append-nil, arith, length-drop, drop-cons}
use Rattle.meaning.specs.Answers.{answer, accepted}
use Rattle.meaning.specs.Records.{Record}
use Rattle.meaning.specs.Printed.{decimal, signed_text, text_line, first_line, area_line, printed}

unfoldable pub number_line : ℤ → ℤ → ℤ → ℤ → List ℕ
number_line a b c d = text_line (signed_text a ∷ signed_text b ∷ signed_text c ∷ signed_text d ∷ [])

unfoldable pub number_lines : List ℤ → List ℕ
number_lines [] = []
number_lines (a ∷ []) = []
number_lines (a ∷ b ∷ []) = []
number_lines (a ∷ b ∷ c ∷ []) = []
number_lines (a ∷ b ∷ c ∷ d ∷ ns) = number_line a b c d ++ number_lines ns

-- the line of the four numbers from place j on
unfoldable pub line_at : List ℤ → ℕ → List ℕ
line_at ns j = number_line (get_or ns j (pos 0)) (get_or ns (j + 1) (pos 0)) (get_or ns (j + 2) (pos 0)) (get_or ns (j + 3) (pos 0))

unfoldable pub accepted_text : ℕ → List ℤ → ℕ → List ℕ
accepted_text v ns n = first_line (accepted v) ++ (number_lines ns ++ area_line n)

pub printed_refused : (k v : ℕ) (rs : List (Record ℤ)) (n : ℕ) → 0 < k → printed (answer k v) rs n ≡ first_line (answer k v)
unfolding printed
printed_refused zero v rs n h = absurd (omega arith)
printed_refused (suc k) v rs n h = append-nil (first_line (answer (suc k) v))

-- ---- record by record

short : (l : List ℤ) → length l < 4 → number_lines l ≡ []
unfolding number_lines
short [] h = refl
short (a ∷ []) h = refl
short (a ∷ b ∷ []) h = refl
short (a ∷ b ∷ c ∷ []) h = refl
short (a ∷ b ∷ c ∷ d ∷ t) h = absurd (omega arith)

pub lines_none : (ns : List ℤ) (j : ℕ) → length ns - j < 4 → number_lines (drop j ns) ≡ []
lines_none ns j h = short (drop j ns) (rw length-drop h)

one_more : (ns : List ℤ) (i k : ℕ) → suc i ≡ k → i < length ns → drop i ns ≡ get_or ns i (pos 0) ∷ drop k ns
one_more ns i k e h = drop-cons ns i (pos 0) h ∙ ap (λ (m : ℕ). get_or ns i (pos 0) ∷ drop m ns) e

pub lines_more : (ns : List ℤ) (j : ℕ) → j + 4 ≤ length ns → number_lines (drop j ns) ≡ line_at ns j ++ number_lines (drop (j + 4) ns)
unfolding number_lines line_at
lines_more ns j h =
    let p : drop j ns ≡ get_or ns j (pos 0) ∷ drop (j + 1) ns = one_more ns j (j + 1) (omega arith) (omega arith) in
    let q : drop (j + 1) ns ≡ get_or ns (j + 1) (pos 0) ∷ drop (j + 2) ns = one_more ns (j + 1) (j + 2) (omega arith) (omega arith) in
    let r : drop (j + 2) ns ≡ get_or ns (j + 2) (pos 0) ∷ drop (j + 3) ns = one_more ns (j + 2) (j + 3) (omega arith) (omega arith) in
    let s : drop (j + 3) ns ≡ get_or ns (j + 3) (pos 0) ∷ drop (j + 4) ns = one_more ns (j + 3) (j + 4) (omega arith) (omega arith) in
    rw (p, q, r, s)

-- ---- word by word, each with the byte after it

pub first_words : (k v : ℕ) → first_line (answer k v) ≡ decimal k ++ ((32 ∷ []) ++ (decimal v ++ (10 ∷ [])))
unfolding first_line text_line
first_words k v = refl

pub area_words : (n : ℕ) → area_line n ≡ (97 ∷ 114 ∷ 101 ∷ 97 ∷ 32 ∷ []) ++ (decimal n ++ (10 ∷ []))
unfolding area_line text_line
area_words n = refl
