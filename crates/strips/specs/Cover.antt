-- Which layers cover a strip, as one number, its cover, and what the expression makes of it.
--
--   holds_of truth            the expression that a table of 256 covers has: the entry whose number has a digit 1 for each layer that covers
--   look truth m r           what it says of the cover that stands at place r of m
--   turned_to m l d           the cover m with the digit of layer l made d
--   Passed none f a b xs₀ xs one pass over the places from a on, below b
use Rattle.std.specs.Prelude.{◌≡◌, Bool, false, List, ℕ, ◌+◌, ◌*◌, ◌-◌, ◌/◌, ◌%◌, ◌^◌, ◌<◌, ◌≤◌, length, get_or}
use Rattle.basic_laws.specs.Bits.{of_bits}

unfoldable pub holds_of : List Bool → (ℕ → Bool) → Bool
holds_of truth f = get_or truth (of_bits 8 f) false

abbrev pub look : List Bool → List ℕ → ℕ → Bool
look truth m r = get_or truth (get_or m r 0) false

abbrev pub turned_to : ℕ → ℕ → ℕ → ℕ
turned_to m l d = m - (m / 2 ^ l % 2) * 2 ^ l + d * 2 ^ l

-- each number from a on, below b, is f of its place; all others are as they were
pub record Passed {A : Type 0} (none : A) (f : ℕ → A) (a b : ℕ) (xs₀ xs : List A) : Type 0 where
  pub long : length xs ≡ length xs₀
  pub made : (r : ℕ) → a ≤ r → r < b → get_or xs r none ≡ f r
  pub same : (r : ℕ) → (a ≤ r → r < b → ⊥) → get_or xs r none ≡ get_or xs₀ r none
