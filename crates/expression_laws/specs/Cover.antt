-- Covers as bytes, and the table of an expression's values at all of them.
--
--   cover_of m          the layers that the byte m says to cover: the layer l where its digit that counts 2^l is 1
--   byte_of h           the byte that says which of the eight layers cover: the sum of 2^l over those that do
--   Entry s h v        v is the value of the text s where h is handed, and false where s is not in the grammar
--   Table s truth      truth has the 256 entries of the text s
--   Changes truth l    two covers that differ in the layer l alone have different entries
use Rattle.std.specs.Prelude.{◌≡◌, ◌⊎◌, Bool, false, List, ℕ, ◌<◌, length, get_or}
use Rattle.meaning.specs.Expression.{Handed, InGrammar, Means}
use Rattle.basic_laws.specs.Bits.{bit_at, of_bits}

abbrev pub cover_of : ℕ → Handed
cover_of m l = bit_at m l

abbrev pub byte_of : Handed → ℕ
byte_of h = of_bits 8 h

abbrev pub Entry : List ℕ → Handed → Bool → Type 0
Entry s h v = Means s h v ⊎ ((InGrammar s → ⊥) × (v ≡ false))

pub record Table (s : List ℕ) (truth : List Bool) : Type 0 where
  pub size : length truth ≡ 256
  pub each : (m : ℕ) → m < 256 → Entry s (cover_of m) (get_or truth m false)

pub record Changes (truth : List Bool) (l : ℕ) : Type 0 where
  pub one : Handed
  pub other : Handed
  pub alike : (k : ℕ) → (k ≡ l → ⊥) → one k ≡ other k
  pub differ : get_or truth (byte_of one) false ≡ get_or truth (byte_of other) false → ⊥
