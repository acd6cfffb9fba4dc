-- Laws of covers as numbers. Assumes nothing.
--
--   turned_no      a digit made another
--   byte_is, byte_less, byte_fits   what shifts would make of a byte: laws, no longer the code's way
--   turned_on, turned_off           what the code's masks make of it
use Rattle.std.specs.Prelude.{◌≡◌, ◌≢◌, Bool, ℕ, zero, suc, ◌+◌, ◌*◌, ◌-◌, ◌/◌, ◌%◌, ◌^◌, ◌<◌, ◌≤◌}
use Rattle.std.specs.Int.Bits.{bit_and, bit_or, or_add_and}
use Rattle.std.proofs.Common.{ap, ◌∙◌, arith}
use Rattle.std.proofs.lemmas.Nat.{pow-add, one_shl, pow_below, and_comm, and_le_l, and-not}
use Rattle.std.proofs.lemmas.Nat.Bits.{and_high}
use Rattle.meaning.specs.Numbers.{bit}
use Rattle.basic_laws.specs.Bits.{of_bits, of_bits_step, of_bits_has, digit_of_bits, pick_bit}
use Rattle.strips.specs.Cover.{turned_to}

pub turned_no : (f g : ℕ → Bool) (l : ℕ) → l < 8 → ((k : ℕ) → k < 8 → k ≢ l → g k ≡ f k) → turned_to (of_bits 8 f) l (bit (g l)) ≡ of_bits 8 g
turned_no f g l h e =
    rw (digit_of_bits 8 f l h)
    (omega (arith, of_bits_step 8 l f g h e, of_bits_has 8 l f h, pick_bit (f l) (2 ^ l), pick_bit (g l) (2 ^ l)))

-- ---- in a byte

shifted : (d l : ℕ) → d < 2 → l < 8 → (d * 2 ^ l) % 256 ≡ d * 2 ^ l
shifted d zero h g = omega arith
shifted d (suc zero) h g = omega arith
shifted d (suc (suc zero)) h g = omega arith
shifted d (suc (suc (suc zero))) h g = omega arith
shifted d (suc (suc (suc (suc zero)))) h g = omega arith
shifted d (suc (suc (suc (suc (suc zero))))) h g = omega arith
shifted d (suc (suc (suc (suc (suc (suc zero)))))) h g = omega arith
shifted d (suc (suc (suc (suc (suc (suc (suc zero))))))) h g = omega arith
shifted d (suc (suc (suc (suc (suc (suc (suc (suc l)))))))) h g = absurd (omega arith)

turned_fits : (m l d : ℕ) → m < 256 → l < 8 → d < 2 → ((m / 2 ^ l % 2) * 2 ^ l ≤ m) × (turned_to m l d < 256)
turned_fits m zero d h g k = (omega arith, omega arith)
turned_fits m (suc zero) d h g k = (omega arith, omega arith)
turned_fits m (suc (suc zero)) d h g k = (omega arith, omega arith)
turned_fits m (suc (suc (suc zero))) d h g k = (omega arith, omega arith)
turned_fits m (suc (suc (suc (suc zero)))) d h g k = (omega arith, omega arith)
turned_fits m (suc (suc (suc (suc (suc zero))))) d h g k = (omega arith, omega arith)
turned_fits m (suc (suc (suc (suc (suc (suc zero)))))) d h g k = (omega arith, omega arith)
turned_fits m (suc (suc (suc (suc (suc (suc (suc zero))))))) d h g k = (omega arith, omega arith)
turned_fits m (suc (suc (suc (suc (suc (suc (suc (suc l)))))))) d h g k = absurd (omega arith)

module _ (m l d : ℕ) (hm : m < 256) (hl : l < 8) (hd : d < 2) where
  old : ((m / 2 ^ l % 2) * 2 ^ l) % 256 ≡ (m / 2 ^ l % 2) * 2 ^ l
  old = shifted (m / 2 ^ l % 2) l (omega arith) hl

  pub byte_less : ((m / 2 ^ l % 2) * 2 ^ l) % 256 ≤ m
  byte_less = rw old (turned_fits m l d hm hl hd).0

  pub byte_is : m - ((m / 2 ^ l % 2) * 2 ^ l) % 256 + (d * 2 ^ l) % 256 ≡ turned_to m l d
  byte_is = rw (old, shifted d l hd hl)

  pub byte_fits : m - ((m / 2 ^ l % 2) * 2 ^ l) % 256 + (d * 2 ^ l) % 256 < 256
  byte_fits = rw byte_is (turned_fits m l d hm hl hd).1

-- ---- by masks

shared : (m l : ℕ) → bit_and m (2 ^ l) ≡ (m / 2 ^ l % 2) * 2 ^ l
shared m l = ap (bit_and m) alone ∙ and_high m 1 l
  where
    alone : 2 ^ l ≡ 2 ^ (1 + l) - 2 ^ l
    alone = omega (arith, pow-add 2 1 l)

pub turned_on : (m l : ℕ) → l < 8 → bit_or m (1 * 2 ^ l % 256) ≡ turned_to m l 1
turned_on m l h = rw (one_shl l 8 h) (omega (arith, or_add_and m (2 ^ l), and_le_l m (2 ^ l), shared m l))

pub turned_off : (m l : ℕ) → m < 256 → l < 8 → bit_and m (255 - 1 * 2 ^ l % 256) ≡ turned_to m l 0
turned_off m l g h = rw (one_shl l 8 h, and_comm m (255 - 2 ^ l)) (omega (arith, and-not 8 (2 ^ l) m (pow_below l 8 h) g, and_comm (2 ^ l) m, shared m l))
