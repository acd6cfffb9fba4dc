-- The printed text tells the answer, and of an accepted one the records and the cells: no two print alike. Assumes nothing.
--
--   decimal_one        two numbers have two texts
--   printed_tells      equal texts are of equal answers, and where the number is 0 of equal records and equal cells
use Rattle.std.specs.Prelude.{◌≡◌, refl, List, [], ◌∷◌, ◌++◌, ℕ, suc, ◌+◌, ◌-◌, ◌*◌, ◌≤◌, ◌<◌, ℤ, pos, negsuc}
use Rattle.std.proofs.Common.{sym, ap, ap₂, ◌∙◌, subst, append_assoc, arith}
use Rattle.meaning.specs.Answers.{answer}
use Rattle.meaning.specs.Records.{Record, rec}
use Rattle.meaning.specs.Printed.{digit, decimal, signed_text, text_line, first_line, record_line, record_lines, area_line, rest, printed}
use Rattle.basic_laws.specs.Lists.{All, all_map, all_append}
use Rattle.printed_laws.specs.Decimals.{Decimal, one, more, is_decimal}

-- ---- decimal numbers

value_from : ℕ → List ℕ → ℕ
value_from n [] = n
value_from n (b ∷ t) = value_from (10 * n + (b - 48)) t

value_append : (n : ℕ) (s t : List ℕ) → value_from n (s ++ t) ≡ value_from (value_from n s) t
unfolding value_from
value_append n [] t = refl
value_append n (b ∷ s) t = value_append (10 * n + (b - 48)) s t

value_of : {n : ℕ} {t : List ℕ} → Decimal n t → value_from 0 t ≡ n
unfolding value_from
value_of (one {d} h) = omega arith
value_of (more {n} {d} {t} p h before) = value_append 0 t (digit d ∷ []) ∙ omega (arith, value_of before)

pub decimal_one : (m n : ℕ) → decimal m ≡ decimal n → m ≡ n
decimal_one m n e = sym (value_of (is_decimal m)) ∙ ap (value_from 0) e ∙ value_of (is_decimal n)

-- every byte is a digit
digits_all : {n : ℕ} {t : List ℕ} → Decimal n t → All (λ b. (48 ≤ b) × (b < 58)) t
digits_all (one {d} h) = ((omega arith, omega arith), tt)
digits_all (more {n} {d} {t} p h before) = all_append _ t (digit d ∷ []) (digits_all before) ((omega arith, omega arith), tt)

-- ---- words: no blank and no line feed, which are bytes up to 32

Word : List ℕ → Type 0
Word t = All (λ b. 32 < b) t

decimal_digits : (n : ℕ) → All (λ b. (48 ≤ b) × (b < 58)) (decimal n)
decimal_digits n = digits_all (is_decimal n)

decimal_word : (n : ℕ) → Word (decimal n)
unfolding Word
decimal_word n = all_map _ _ (decimal n) (λ b h. omega arith) (decimal_digits n)

signed_word : (z : ℤ) → Word (signed_text z)
unfolding signed_text Word
signed_word (pos n) = decimal_word n
signed_word (negsuc n) = (omega arith, decimal_word (suc n))

signed_one : (y z : ℤ) → signed_text y ≡ signed_text z → y ≡ z
unfolding signed_text
signed_one (pos m) (pos n) e = ap pos (decimal_one m n e)
signed_one (pos m) (negsuc n) e = let h : 48 ≤ 45 = (subst (All (λ b. (48 ≤ b) × (b < 58))) e (decimal_digits m)).0.0 in absurd (omega arith)
signed_one (negsuc m) (pos n) e = let h : 48 ≤ 45 = (subst (All (λ b. (48 ≤ b) × (b < 58))) (sym e) (decimal_digits n)).0.0 in absurd (omega arith)
signed_one (negsuc m) (negsuc n) e =
    let t : decimal (suc m) ≡ decimal (suc n) = cc in
    let u : suc m ≡ suc n = decimal_one (suc m) (suc n) t in
    ap negsuc (omega arith)

-- a word, the byte that ends it, and the rest
apart : (v w : List ℕ) (b c : ℕ) (s t : List ℕ) → Word v → Word w → b ≤ 32 → c ≤ 32 → v ++ (b ∷ s) ≡ w ++ (c ∷ t) → (v ≡ w) × (s ≡ t)
unfolding Word
apart [] [] b c s t p q h k e = (refl, cc)
apart [] (y ∷ w) b c s t p q h k e = let x : b ≡ y = cc in absurd (omega arith)
apart (x ∷ v) [] b c s t p q h k e = let y : x ≡ c = cc in absurd (omega arith)
apart (x ∷ v) (y ∷ w) b c s t p q h k e =
    let i : x ≡ y = cc in
    let r : v ++ (b ∷ s) ≡ w ++ (c ∷ t) = cc in
    let u : (v ≡ w) × (s ≡ t) = apart v w b c s t p.1 q.1 h k r in
    (ap₂ ◌∷◌ i u.0, u.1)

-- ---- lines, and what follows them

next_word : (v w s t : List ℕ) (b : ℕ) → Word v → Word w → b ≤ 32 → v ++ (b ∷ s) ≡ w ++ (b ∷ t) → (v ≡ w) × (s ≡ t)
next_word v w s t b p q h e = apart v w b b s t p q h h e

after_first : (k v : ℕ) (t : List ℕ) → first_line (answer k v) ++ t ≡ decimal k ++ (32 ∷ (decimal v ++ (10 ∷ t)))
unfolding first_line text_line
after_first k v t = simp append_assoc

after_record : (kind : ℕ) (p f g : ℤ) (t : List ℕ) → record_line (rec kind p f g) ++ t ≡ decimal kind ++ (32 ∷ (signed_text p ++ (32 ∷ (signed_text f ++ (32 ∷ (signed_text g ++ (10 ∷ t)))))))
unfolding record_line text_line
after_record kind p f g t = simp append_assoc

letters : List ℕ
letters = 97 ∷ 114 ∷ 101 ∷ 97 ∷ []

area_parts : (n : ℕ) → area_line n ≡ letters ++ (32 ∷ (decimal n ++ (10 ∷ [])))
unfolding area_line text_line letters
area_parts n = refl

letters_word : Word letters
unfolding Word letters
letters_word = (omega arith, (omega arith, (omega arith, (omega arith, tt))))

-- the last line does not begin as a record's line does
not_area : (kind n : ℕ) (t : List ℕ) → area_line n ≡ decimal kind ++ (32 ∷ t) → ⊥
unfolding letters
not_area kind n t e =
    let w : letters ≡ decimal kind = (next_word letters (decimal kind) _ _ 32 letters_word (decimal_word kind) (omega arith) (sym (area_parts n) ∙ e)).0 in
    let h : (48 ≤ 97) × (97 < 58) = (subst (All (λ b. (48 ≤ b) × (b < 58))) (sym w) (decimal_digits kind)).0 in
    omega arith

area_tells : (m n : ℕ) → area_line m ≡ area_line n → m ≡ n
area_tells m n e =
    let t : decimal m ++ (10 ∷ []) ≡ decimal n ++ (10 ∷ []) = (next_word letters letters _ _ 32 letters_word letters_word (omega arith) (sym (area_parts m) ∙ e ∙ area_parts n)).1 in
    decimal_one m n (next_word (decimal m) (decimal n) [] [] 10 (decimal_word m) (decimal_word n) (omega arith) t).0

record_tells : (r s : Record ℤ) (t u : List ℕ) → record_line r ++ t ≡ record_line s ++ u → (r ≡ s) × (t ≡ u)
record_tells (rec kind p f g) (rec kind' p' f' g') t u e =
    let a = next_word (decimal kind) (decimal kind') _ _ 32 (decimal_word kind) (decimal_word kind') (omega arith) (sym (after_record kind p f g t) ∙ e ∙ after_record kind' p' f' g' u) in
    let b = next_word (signed_text p) (signed_text p') _ _ 32 (signed_word p) (signed_word p') (omega arith) a.1 in
    let c = next_word (signed_text f) (signed_text f') _ _ 32 (signed_word f) (signed_word f') (omega arith) b.1 in
    let d = next_word (signed_text g) (signed_text g') t u 10 (signed_word g) (signed_word g') (omega arith) c.1 in
    let i : kind ≡ kind' = decimal_one kind kind' a.0 in
    let j : p ≡ p' = signed_one p p' b.0 in
    let k : f ≡ f' = signed_one f f' c.0 in
    let l : g ≡ g' = signed_one g g' d.0 in
    (cc, d.1)

lines_tell : (rs ss : List (Record ℤ)) (m n : ℕ) → record_lines rs ++ area_line m ≡ record_lines ss ++ area_line n → (rs ≡ ss) × (m ≡ n)
unfolding record_lines
lines_tell [] [] m n e = (refl, area_tells m n e)
lines_tell [] (rec kind p f g ∷ ss) m n e = absurd (not_area kind m _ (e ∙ append_assoc (record_line (rec kind p f g)) (record_lines ss) (area_line n) ∙ after_record kind p f g (record_lines ss ++ area_line n)))
lines_tell (rec kind p f g ∷ rs) [] m n e = absurd (not_area kind n _ (sym e ∙ append_assoc (record_line (rec kind p f g)) (record_lines rs) (area_line m) ∙ after_record kind p f g (record_lines rs ++ area_line m)))
lines_tell (r ∷ rs) (s ∷ ss) m n e =
    let first = record_tells r s (record_lines rs ++ area_line m) (record_lines ss ++ area_line n) (sym (append_assoc (record_line r) (record_lines rs) (area_line m)) ∙ e ∙ append_assoc (record_line s) (record_lines ss) (area_line n)) in
    let rest = lines_tell rs ss m n first.1 in
    (ap₂ ◌∷◌ first.0 rest.0, rest.1)

-- ---- the whole text

pub printed_tells : (k v l w : ℕ) (rs ss : List (Record ℤ)) (m n : ℕ) → printed (answer k v) rs m ≡ printed (answer l w) ss n → (k ≡ l) × (v ≡ w) × (k ≡ 0 → (rs ≡ ss) × (m ≡ n))
unfolding printed
printed_tells k v l w rs ss m n e =
    let a = next_word (decimal k) (decimal l) _ _ 32 (decimal_word k) (decimal_word l) (omega arith) (sym (after_first k v (rest k rs m)) ∙ e ∙ after_first l w (rest l ss n)) in
    let b = next_word (decimal v) (decimal w) (rest k rs m) (rest l ss n) 10 (decimal_word v) (decimal_word w) (omega arith) a.1 in
    let i : k ≡ l = decimal_one k l a.0 in
    (i, decimal_one v w b.0, λ z. lines_tell rs ss m n (rw (z, sym i ∙ z) at b.1))
