-- How long the printed text can be, in bytes. Assumes nothing.
--
--   number_length        a number of 64 bits: at most 20
--   signed_length        a signed number of 32 bits: at most 11; held_length: read back from its bits
--   first_size           the first line; refused_length: at most 42; accepted_length: at most 23 where the number is 0
--   area_size            the last line; area_length: at most 26
use Rattle.std.specs.Prelude.{◌≡◌, ℕ, suc, ◌+◌, ◌^◌, ◌≤◌, ◌<◌, ℤ, pos, negsuc, length}
use Rattle.std.proofs.Common.{ap, ◌∙◌, lt_of_lt_of_le, arith, lit≤, to_z, of_z, length-append}
use Rattle.std.specs.Int.Signed.{mag}
use Rattle.std.specs.Int.{w32}
use Rattle.meaning.specs.Answers.{answer, accepted}
use Rattle.meaning.specs.Printed.{decimal, signed_text, first_line, area_line}
use Rattle.basic_laws.specs.Signed.{read32}
use Rattle.printed_laws.specs.Decimals.{decimal_length, small_length}
use Rattle.printed_laws.specs.Lines.{first_words, area_words}

pub number_length : (n : ℕ) → n < 2 ^ 64 → length (decimal n) ≤ 20
number_length n h = decimal_length 19 n (lt_of_lt_of_le h (lit≤ tt))

pub signed_length : (z : ℤ) → mag z < 2 ^ 31 → length (signed_text z) ≤ 11
unfolding signed_text
signed_length (pos n) h = omega (arith, decimal_length 9 n (omega arith))
signed_length (negsuc n) h = omega (arith, decimal_length 9 (suc n) (omega arith))

-- of what is read back from the bits of z
pub held_length : (z : ℤ) → mag z < 2 ^ 31 → length (signed_text (to_z w32 (of_z w32 z))) ≤ 11
held_length z h = rw (read32 z h) (signed_length z h)

pub first_size : (k v : ℕ) → length (first_line (answer k v)) ≡ length (decimal k) + length (decimal v) + 2
first_size k v = ap length (first_words k v) ∙ simp length-append (omega arith)

pub refused_length : (k v : ℕ) → k < 2 ^ 64 → v < 2 ^ 64 → length (first_line (answer k v)) ≤ 42
refused_length k v p q = omega (arith, first_size k v, number_length k p, number_length v q)

pub accepted_length : (v : ℕ) → v < 2 ^ 64 → length (first_line (accepted v)) ≤ 23
accepted_length v q = omega (arith, first_size 0 v, small_length 0 (omega arith), number_length v q)

pub area_size : (n : ℕ) → length (area_line n) ≡ length (decimal n) + 6
area_size n = ap length (area_words n) ∙ simp length-append (omega arith)

pub area_length : (n : ℕ) → n < 2 ^ 64 → length (area_line n) ≤ 26
area_length n h = omega (arith, area_size n, number_length n h)
