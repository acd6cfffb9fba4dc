-- Records in a lent buffer. A record in steps has its coordinates counted from the least one, as the sweep has them.
--
--   numbers rs           the numbers of records in steps: those of document 01's records
--   put_at out n r        record number n is r, where there is room
--   emitted out n rs     the records rs, from record number n on, as far as there is room
--   Emitted before n rs after r   that is what was done, and r is the number after them
use Rattle.std.specs.Prelude.{◌≡◌, List, [], ◌∷◌, map, ℕ, ◌+◌, ◌*◌, ◌/◌, ◌≤◌, length, set, ltb, ℤ, pos}
use Rattle.meaning.specs.Numbers.{limit, step, pick}
use Rattle.meaning.specs.Records.{Record, rec, numbers_of}
use Rattle.basic_laws.specs.Steps.{lowered}

unfoldable pub numbers : List (Record ℕ) → List ℤ
numbers rs = numbers_of (map (lowered limit) rs)

pub record RecordOk (k p f t : ℕ) : Type 0 where
  pub kind : k ≤ 1
  pub place : p ≤ 2147483648
  pub from : f ≤ 2147483648
  pub to : t ≤ 2147483648

-- four numbers from place i on
abbrev pub set_four : List ℤ → ℕ → ℤ → ℤ → ℤ → ℤ → List ℤ
set_four out i k p f t = set (set (set (set out i k) (i + 1) p) (i + 2) f) (i + 3) t

abbrev pub store_at : List ℤ → ℕ → ℤ → ℤ → ℤ → ℤ → List ℤ
store_at out n k p f t = pick (ltb n (length out / 4)) (set_four out (n * 4) k p f t) out

unfoldable pub put_at : List ℤ → ℕ → Record ℕ → List ℤ
put_at out n (rec k p f t) = store_at out n (pos k) (step limit p) (step limit f) (step limit t)

unfoldable pub emitted : List ℤ → ℕ → List (Record ℕ) → List ℤ
emitted out n [] = out
emitted out n (r ∷ rs) = emitted (put_at out n r) (n + 1) rs

pub record Emitted (before : List ℤ) (n : ℕ) (rs : List (Record ℕ)) (after : List ℤ) (r : ℕ) : Type 0 where
  pub list : after ≡ emitted before n rs
  pub count : r ≡ n + length rs
