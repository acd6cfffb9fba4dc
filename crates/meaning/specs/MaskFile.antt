-- The mask file: how a number is spelt in bytes, how a signed number is stored, and the bytes of a ring list.
--
--   spelt G v        the bytes of the number v, in at most G groups
--   most G           what G groups hold is below this
--   signed z         the number that is stored for a signed one
--   stored_rings rs   the numbers of a ring list as a file has them
--   bytes_of G rs     the file of a ring list
--   Stands G v bs    the bytes bs begin with the number v
--   Cut, NotShortest, TooLong   what else may stand at the front of bytes
--
-- The number of groups is a parameter throughout; edition 1 has five.
use Rattle.std.specs.Prelude.{◌≡◌, List, [], ◌∷◌, ◌++◌, ℕ, zero, suc, ◌+◌, ◌*◌, ◌/◌, ◌%◌, ◌≤◌, ◌<◌, ◌^◌, ltb, ℤ, pos, negsuc, ◌-ℤ◌, length}
use Rattle.meaning.specs.Numbers.{pick}
use Rattle.meaning.specs.Rings.{Pair, Ring, All}

-- "Numbers are groups of seven bits, least group first, the high bit set when another follows; at most five groups, and the last group
-- of several is not zero."
unfoldable pub spelt : ℕ → ℕ → List ℕ
spelt zero v = []
spelt (suc g) v = pick (ltb v 128) (v ∷ []) ((v % 128 + 128) ∷ spelt g (v / 128))

abbrev pub most : ℕ → ℕ
most g = 128 ^ g

-- "at most five groups"
abbrev pub five : ℕ
five = 5

-- "A signed number is twice its size, plus 1 if negative"
abbrev pub signed : ℤ → ℕ
signed (pos n) = 2 * n
signed (negsuc n) = 2 * suc n + 1

-- "then for each further pair the signed differences from the previous x and y"
unfoldable pub further_pairs : Pair → List Pair → List ℕ
further_pairs p [] = []
further_pairs p (q ∷ ps) = signed (q.x -ℤ p.x) ∷ signed (q.y -ℤ p.y) ∷ further_pairs q ps

-- "then x1, y1 signed"
unfoldable pub stored_pairs : List Pair → List ℕ
stored_pairs [] = []
stored_pairs (p ∷ ps) = signed p.x ∷ signed p.y ∷ further_pairs p ps

-- "A ring is a layer, a pair count k, then x1, y1 signed, .."
unfoldable pub stored_rings : List Ring → List ℕ
stored_rings [] = []
stored_rings (r ∷ rs) = r.layer ∷ length r.pairs ∷ stored_pairs r.pairs ++ stored_rings rs

unfoldable pub bytes_of_all : ℕ → List ℕ → List ℕ
bytes_of_all G [] = []
bytes_of_all G (v ∷ vs) = spelt G v ++ bytes_of_all G vs

-- "The file is the number 1 (its edition), then rings to the end of the bytes."
abbrev pub bytes_of : ℕ → List Ring → List ℕ
bytes_of G rs = spelt G 1 ++ bytes_of_all G (stored_rings rs)

-- "mask file at most 49,152 bytes"
abbrev pub longest : ℕ
longest = 49152

-- ---- what stands at the front of bytes

pub record Stands (G v : ℕ) (bs : List ℕ) : Type 0 where
  pub rest : List ℕ
  pub is : bs ≡ spelt G v ++ rest
  pub fits : v < most G

-- groups that are all followed by another
abbrev pub Continued : List ℕ → Type 0
Continued cs = All (λ c. 128 ≤ c) cs

-- a number that is "absent or cut short"
pub record Cut (G : ℕ) (bs : List ℕ) : Type 0 where
  pub continued : Continued bs
  pub short : length bs < G

-- "number not shortest": the last group of several is zero
pub record NotShortest (G : ℕ) (bs : List ℕ) : Type 0 where
  pub first : List ℕ
  pub rest : List ℕ
  pub is : bs ≡ first ++ 0 ∷ rest
  pub continued : Continued first
  pub several : 1 ≤ length first
  pub short : length first < G

-- "fifth group continued"
pub record TooLong (G : ℕ) (bs : List ℕ) : Type 0 where
  pub first : List ℕ
  pub rest : List ℕ
  pub is : bs ≡ first ++ rest
  pub continued : Continued first
  pub long : length first ≡ G
