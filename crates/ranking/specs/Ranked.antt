-- Ranks of keys among their distinct values, from words in ascending order.
--
--   Rankable base ws n             ws ascend, hold different places below n and keys of 32 bits
--   Has base ws i v                some of the first i words holds the key v
--   Ranked base ws values ranks r  values starts with r strictly rising keys, each that of some word; ranks has at each word's place
--                                  a number below r, and the word's key stands there in values
use Rattle.std.specs.Prelude.{◌≡◌, ◌≢◌, List, ℕ, ◌<◌, ◌≤◌, length, get_or}
use Rattle.sum_laws.specs.Sums.{Ascending}
use Rattle.words.specs.Words.{place_of, value_of}

pub record Rankable (base : ℕ) (ws : List ℕ) (n : ℕ) : Type 0 where
  pub ascending : Ascending ws
  pub apart : (p q : ℕ) → p < q → q < length ws → place_of (get_or ws p 0) ≢ place_of (get_or ws q 0)
  pub inside : (p : ℕ) → p < length ws → place_of (get_or ws p 0) < n
  pub small : (p : ℕ) → p < length ws → value_of base (get_or ws p 0) < 4294967296

pub record Has (base : ℕ) (ws : List ℕ) (i v : ℕ) : Type 0 where
  pub at : ℕ
  pub within : at < i
  pub is : value_of base (get_or ws at 0) ≡ v

pub record Ranked (base : ℕ) (ws values ranks : List ℕ) (r : ℕ) : Type 0 where
  pub within : r ≤ length values
  pub rising : (p q : ℕ) → p < q → q < r → get_or values p 0 < get_or values q 0
  pub low : (p : ℕ) → p < length ws → get_or ranks (place_of (get_or ws p 0)) 0 < r
  pub is : (p : ℕ) → p < length ws → get_or values (get_or ranks (place_of (get_or ws p 0)) 0) 0 ≡ value_of base (get_or ws p 0)
  pub every : (k : ℕ) → k < r → Has base ws (length ws) (get_or values k 0)
