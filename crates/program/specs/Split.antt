-- The input, split at its first line feed. Assumes nothing.
--
--   text_most               the expression is no longer than the input
--   text_part, file_part    the expression is what stands before the line feed, the file what stands after it
--   placed_at, missing_at   where the first line feed stands, the expression ends; with none it is the whole input
--   text_all, file_empty    with no line feed all is the expression, and the file is empty
--   file_none               with no line feed the file is empty: what stands from the end of the input on
--   Passed l i              no line feed stands before the place i of the input l; passed_none, passed_more: from the front on
--   feed_here, feed_none    where the expression ends
use Rattle.std.specs.Prelude.{◌≡◌, refl, Some, None, position, cond, nat_lt, Bool, true, false, List, [], ◌∷◌, ℕ, suc, ◌+◌, ◌-◌, ◌≤◌, ◌<◌, eqb, length, take, drop, get_or}
use Rattle.std.proofs.Common.{sym, ap, ◌∙◌, arith, add-one, lit≤, length-drop, drop_of_length-le, take_all, drop-cons, eq-eqb, ne_eqb}
use Rattle.std.specs.List.{position_or_len}
use Rattle.std.proofs.lemmas.List.Recursion.{is_position_or_len}
use Rattle.std.proofs.lemmas.Option.{none-some}
use borrow.Author.Tests.{ltb-true, ltb-false}
use Rattle.std.proofs.Math.Nat.{sub-zero}
use Rattle.meaning.specs.Numbers.{pick}
use Rattle.meaning.specs.Program.{text_of, file_of}

-- what both have of a byte and the rest, by whether the byte is the line feed
front_by : (t : Bool) (b : ℕ) (l u : List ℕ) → take (length u) l ≡ u → take (length (pick t [] (b ∷ u))) (b ∷ l) ≡ pick t [] (b ∷ u)
front_by true b l u e = refl
front_by false b l u e = ap (λ (v : List ℕ). b ∷ v) e

front : (l : List ℕ) → take (length (text_of l)) l ≡ text_of l
unfolding text_of
front [] = refl
front (b ∷ l) = front_by (eqb b 10) b l (text_of l) (front l)

most_by : (t : Bool) (b : ℕ) (l u : List ℕ) → length u ≤ length l → length (pick t [] (b ∷ u)) ≤ suc (length l)
most_by true b l u h = omega arith
most_by false b l u h = omega arith

pub text_most : (l : List ℕ) → length (text_of l) ≤ length l
unfolding text_of
text_most [] = lit≤ tt
text_most (b ∷ l) = most_by (eqb b 10) b l (text_of l) (text_most l)

back_by : (t : Bool) (b : ℕ) (l u f : List ℕ) → drop (suc (length u)) l ≡ f → drop (suc (length (pick t [] (b ∷ u)))) (b ∷ l) ≡ pick t l f
back_by true b l u f e = refl
back_by false b l u f e = e

back : (l : List ℕ) → drop (suc (length (text_of l))) l ≡ file_of l
unfolding text_of file_of
back [] = refl
back (b ∷ l) = back_by (eqb b 10) b l (text_of l) (file_of l) (back l)

-- a part to the end of a list
to_end : (l : List ℕ) (k : ℕ) → take (length l - k) (drop k l) ≡ drop k l
to_end l k = take_all (length l - k) (drop k l) (rw length-drop (omega arith))

module _ (l : List ℕ) (end : ℕ) (e : end ≡ length (text_of l)) where
  pub text_part : take (end - 0) l ≡ text_of l
  text_part = rw (sub-zero, e) (front l)

  pub file_part : take (length l - (end + 1)) (drop (end + 1) l) ≡ file_of l
  file_part = to_end l (end + 1) ∙ rw (add-one, e) (back l)

  pub file_none : end ≡ length l → take (length l - end) (drop end l) ≡ file_of l
  file_none h = to_end l end ∙ drop_of_length-le l {i = end} (omega arith) ∙ sym (drop_of_length-le l {i = suc (length (text_of l))} (omega arith)) ∙ back l

-- ---- where the first line feed stands

as_long : (t : Bool) (b : ℕ) (u : List ℕ) → length (pick t [] (b ∷ u)) ≡ cond t 0 (1 + length u)
as_long true b u = refl
as_long false b u = omega arith

feed_place : (l : List ℕ) → length (text_of l) ≡ position_or_len (λ b. eqb b 10) l
unfolding text_of
feed_place l = is_position_or_len (λ (s : List ℕ). length (text_of s)) (λ b. eqb b 10) refl (λ b s. as_long (eqb b 10) b (text_of s)) l

placed_by : (t : Bool) (n i : ℕ) → Some i ≡ cond t (Some n) None → (t ≡ true) × (i ≡ n)
placed_by true n i e = (refl, cc)
placed_by false n i e = absurd (none-some i (sym e))

missing_by : (t : Bool) (n : ℕ) → None ≡ cond t (Some n) None → t ≡ false
missing_by true n e = absurd (none-some n e)
missing_by false n e = refl

pub placed_at : (l : List ℕ) (i : ℕ) → Some i ≡ position (λ b. eqb b 10) l → (i < length l) × (i ≡ length (text_of l))
placed_at l i e =
    let p = placed_by (nat_lt (position_or_len (λ b. eqb b 10) l) (length l)) (position_or_len (λ b. eqb b 10) l) i e in
    let k = ltb-true _ _ p.0 in
    (omega (arith, p.1), p.1 ∙ sym (feed_place l))

pub missing_at : (l : List ℕ) → None ≡ position (λ b. eqb b 10) l → length l ≡ length (text_of l)
missing_at l e =
    let p = missing_by (nat_lt (position_or_len (λ b. eqb b 10) l) (length l)) (position_or_len (λ b. eqb b 10) l) e in
    let k = ltb-false _ _ p in
    omega (arith, feed_place l, text_most l)

-- with no line feed all is the expression, and the file is empty
pub text_all : (l : List ℕ) → length l ≡ length (text_of l) → l ≡ text_of l
text_all l e = sym (take_all (length l) l (omega arith)) ∙ ap (λ (k : ℕ). take k l) e ∙ front l

pub file_empty : (l : List ℕ) → length l ≡ length (text_of l) → [] ≡ file_of l
file_empty l e = sym (drop_of_length-le l {i = suc (length (text_of l))} (omega arith)) ∙ back l

-- ---- from the front on

pub record Passed (l : List ℕ) (i : ℕ) : Type 0 where
  pub most : i ≤ length l
  pub left : length (text_of l) ≡ i + length (text_of (drop i l))

pub passed_none : (l : List ℕ) → Passed l 0
passed_none l = record { most = omega arith; left = omega arith }

other_byte : (b : ℕ) (l : List ℕ) → (b ≡ 10 → ⊥) → length (text_of (b ∷ l)) ≡ suc (length (text_of l))
unfolding text_of
other_byte b l n = rw (ne_eqb b 10 n)

line_feed : (b : ℕ) (l : List ℕ) → b ≡ 10 → length (text_of (b ∷ l)) ≡ 0
unfolding text_of
line_feed b l e = rw (eq-eqb b 10 e)

module _ (l : List ℕ) (i : ℕ) (p : Passed l i) where
  from_here : i < length l → text_of (drop i l) ≡ text_of (get_or l i 0 ∷ drop (i + 1) l)
  from_here h = rw (add-one, drop-cons l i 0)

  pub passed_more : i < length l → (get_or l i 0 ≡ 10 → ⊥) → Passed l (i + 1)
  passed_more h n = record { most = omega arith; left = omega (arith, p.left, ap length (from_here h), other_byte (get_or l i 0) (drop (i + 1) l) n) }

  pub feed_here : i < length l → get_or l i 0 ≡ 10 → i ≡ length (text_of l)
  feed_here h e = omega (arith, p.left, ap length (from_here h), line_feed (get_or l i 0) (drop (i + 1) l) e)

  pub feed_none : length l ≤ i → i ≡ length (text_of l)
  feed_none h = omega (arith, p.left, p.most, text_most l)
