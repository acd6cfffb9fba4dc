-- What `number`, `signed` and `word` have written: the decimal text, a sign, and one byte more. Assumes nothing.
use mathlib.Core.Path.{◌≡◌, refl, sym, ap, ◌∙◌}
use mathlib.Core.Bool.{true, false, true≢false}
use mathlib.Core.List.{List, [], ◌∷◌, ◌++◌}
use Prim.Native.Nat.{ℕ, zero, suc, ◌+◌, ◌/◌, ◌%◌, ◌^◌, ◌≤◌, ◌<◌}
use Rattle.std.specs.Fmt.{decimal as fmt_decimal}
use Rattle.std.proofs.lemmas.Fmt.{decimal_digit, decimal_step}
use Rattle.std.proofs.Math.Decide.{dec_lt}
use native.Mathlib.Omega.{arith}
use lib.ListN.{length, take, get_or}
use Rattle.std.proofs.lemmas.List.{take_more}
use mir.Syntax.{w32}
use mir.Val.{SFits, to_z, of_z}
use mir.Facts.{to_z-of_z}
use lib.IntN.{ℤ, pos, negsuc, nat_abs}
use lib.Signed.{lt_z}
use borrow.Author.Tests.{ltb-true}
use Rattle.meaning.specs.Printed.{decimal, signed_text}
use Rattle.printed_laws.specs.Decimals.{decimal_small, decimal_large}
use Rattle.numerals.specs.declared.Writer.{Writer}
use Rattle.numerals.specs.Stored.{Stored, stored_then, stored_as}

-- ---- the library's decimal text is document 01's

pub same_text : (n : ℕ) → n < 2 ^ 64 → fmt_decimal n ≡ decimal n
same_text n h = go (suc n) n (omega arith) h
  where
    go : (f n : ℕ) → n < f → n < 2 ^ 64 → fmt_decimal n ≡ decimal n
    go zero n h s = absurd (omega arith)
    go (suc f) n h s = by_size (dec_lt n 10) (go f (n / 10))
      where
        by_size : Dec (n < 10) → (n / 10 < f → n / 10 < 2 ^ 64 → fmt_decimal (n / 10) ≡ decimal (n / 10)) → fmt_decimal n ≡ decimal n
        by_size (yes p) before = decimal_digit n p ∙ sym (decimal_small n p)
        by_size (no p) before =
            let l : 10 ≤ n = omega arith in
            decimal_step n l s ∙ ap (λ (t : List ℕ). t ++ ((48 + n % 10) ∷ [])) (before (omega arith) (omega arith)) ∙ sym (decimal_large n l)

-- ---- the text of a signed number, by its size

minus : (z : ℤ) → lt_z z (pos 0) ≡ true → signed_text z ≡ (45 ∷ []) ++ decimal (nat_abs z)
unfolding signed_text
minus (pos n) t = let h : n < 0 = ltb-true n 0 t in absurd (omega arith)
minus (negsuc n) t = refl

plus : (z : ℤ) → lt_z z (pos 0) ≡ false → signed_text z ≡ decimal (nat_abs z)
unfolding signed_text
plus (pos n) t = refl
plus (negsuc n) t = absurd (true≢false t)

-- the test and the size are of what the machine reads back from the bits of z
module _ (z : ℤ) (fits : SFits w32 z) {m : ℕ} (size : m ≡ nat_abs (to_z w32 (of_z w32 z))) where
  pub with_sign : lt_z (to_z w32 (of_z w32 z)) (pos 0) ≡ true → signed_text z ≡ (45 ∷ []) ++ decimal m
  with_sign t = minus z (rw (to_z-of_z fits) at t) ∙ ap (λ (n : ℕ). (45 ∷ []) ++ decimal n) (ap nat_abs (sym (to_z-of_z fits)) ∙ sym size)

  pub without_sign : lt_z (to_z w32 (of_z w32 z)) (pos 0) ≡ false → signed_text z ≡ decimal m
  without_sign t = plus z (rw (to_z-of_z fits) at t) ∙ ap decimal (ap nat_abs (sym (to_z-of_z fits)) ∙ sym size)

-- ---- a word, byte by byte

pub next_byte : {a b c : Writer} (w : List ℕ) (n : ℕ) → n < length w → Stored a (take n w) b → Stored b (get_or w n 0 ∷ []) c → Stored a (take (n + 1) w) c
next_byte w n h p q = stored_as (sym (take_more w n 0 h)) (stored_then p q)
