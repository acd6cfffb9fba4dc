-- The rows of the strips: of each layer n counts, layer after layer, each raised by 8,192, and for each strip a cover.
--
--   taken_over k h                 the count k with the handed_on count h taken over
--   Taken n l a b h c₀ c m₀ m     the strips from a on, below b, took h over in layer l, and have its digit set anew; all else is as it was
--   TakeOk, CrossOk               they have room for that
--   lower f t, upper f t          the lesser and the greater end of an edge
--   Crossed n l f t c₀ c m₀ m     one edge of layer l, from rank f to rank t, was crossed
--   counts_at n c r                the eight counts of strip r
use Rattle.std.specs.Prelude.{◌≡◌, List, [], ◌∷◌, ℕ, ◌+◌, ◌*◌, ◌-◌, ◌<◌, ◌≤◌, ltb, pos, ◌-ℤ◌, length, get_or}
use Rattle.meaning.specs.Numbers.{bit, pick}
use Rattle.meaning.specs.Edges.{covers}
use Rattle.strips.specs.Rows.{row_at}
use Rattle.strips.specs.Cover.{turned_to, Passed}
use Rattle.scanline.specs.declared.Counts.{Counts}
use Rattle.scanline.specs.Handed.{changed}

abbrev pub taken_over : ℕ → ℕ → ℕ
taken_over k h = k + h - 8192

pub record Taken (n l a b h : ℕ) (c₀ c m₀ m : List ℕ) : Type 0 where
  pub counts : Passed 0 (λ p. taken_over (get_or c₀ p 0) h) (l * n + a) (l * n + b) c₀ c
  pub digits : Passed 0 (λ r. turned_to (get_or m₀ r 0) l (bit (covers (pos (taken_over (get_or c₀ (l * n + r) 0) h) -ℤ pos 8192)))) a b m₀ m

pub record TakeOk (n l a b h : ℕ) (c m : List ℕ) : Type 0 where
  pub long : length c ≡ 8 * n
  pub covers : length m ≡ n
  pub few : n ≤ 8192
  pub layer : l < 8
  pub order : a ≤ b
  pub top : b ≤ n
  pub enough : (r : ℕ) → a ≤ r → r < b → 8192 ≤ row_at n c l r + h
  pub fits : (r : ℕ) → a ≤ r → r < b → row_at n c l r + h < 65536

abbrev pub lower : ℕ → ℕ → ℕ
lower f t = pick (ltb t f) t f

abbrev pub upper : ℕ → ℕ → ℕ
upper f t = pick (ltb t f) f t

pub record CrossOk (n l f t : ℕ) (c m : List ℕ) : Type 0 where
  pub long : length c ≡ 8 * n
  pub covers : length m ≡ n
  pub few : n ≤ 8192
  pub layer : l < 8
  pub from : f ≤ n
  pub to : t ≤ n
  -- a count is neither at its least nor at its greatest
  pub low : (r : ℕ) → r < n → 0 < row_at n c l r
  pub high : (r : ℕ) → r < n → row_at n c l r < 32768

abbrev pub Crossed : ℕ → ℕ → ℕ → ℕ → List ℕ → List ℕ → List ℕ → List ℕ → Type 0
Crossed n l f t c₀ c m₀ m = Taken n l (lower f t) (upper f t) (changed 8192 (ltb t f)) c₀ c m₀ m

abbrev pub counts_at : ℕ → List ℕ → ℕ → Counts
counts_at n c r = record { raised = row_at n c 0 r ∷ row_at n c 1 r ∷ row_at n c 2 r ∷ row_at n c 3 r ∷ row_at n c 4 r ∷ row_at n c 5 r ∷ row_at n c 6 r ∷ row_at n c 7 r ∷ [] }
