-- Many edges at one place: their ends are marked, and the marks summed up along the strips.
--
--   from_at, to_at, from_below, to_below   an edge of a layer that starts (ends) at a rank, or below it
--   Marked n es d          of each layer and rank, d has 8,192 and the edges of es that end there less those that start there
--   marked_by n l f t d     the marks with those of one edge more
--   FreshMarks n d         no edge is marked: every mark is 8,192
--   not_fresh x            the mark x is not 8,192
--   run_to n d l a k        the marks of k ranks from a on, summed up
--   SumOk, Summed          before and after `sum_up`, one layer
--   Between a b es         every end of an edge of es is from a on and at most b: a test that no such edge passes counts none
--   covers_at n c r         the layers that cover strip r, by its counts
--   Covered n c m          each strip's cover m has the digits of its counts c
--   LayerOk                before `sum_layer`
--   AllOk                  before `sum_all`
--   SummedBelow n a b k    the layers below k are summed up, and no other is touched
--   SummedAll              after `sum_all`
use Rattle.std.specs.Prelude.{◌≡◌, Bool, false, not, ◌&&◌, List, ℕ, zero, suc, ◌+◌, ◌*◌, ◌-◌, ◌<◌, ◌≤◌, eqb, ltb, pos, ◌-ℤ◌, length, get_or, set}
use Rattle.meaning.specs.Numbers.{bit}
use Rattle.meaning.specs.Edges.{Edge, edge, number, covers}
use Rattle.basic_laws.specs.Bits.{of_bits}
use Rattle.strips.specs.Rows.{row_at}
use Rattle.strips.specs.Cover.{turned_to, Passed}
use Rattle.strips.specs.Strips.{taken_over}

unfoldable pub from_at : ℕ → ℕ → Edge ℕ → Bool
from_at l r (edge k y f t) = eqb k l && eqb f r

unfoldable pub to_at : ℕ → ℕ → Edge ℕ → Bool
to_at l r (edge k y f t) = eqb k l && eqb t r

unfoldable pub from_below : ℕ → ℕ → Edge ℕ → Bool
from_below l r (edge k y f t) = eqb k l && ltb f r

unfoldable pub to_below : ℕ → ℕ → Edge ℕ → Bool
to_below l r (edge k y f t) = eqb k l && ltb t r

pub record Marked (n : ℕ) (es : List (Edge ℕ)) (d : List ℕ) : Type 0 where
  pub long : length d ≡ 8 * n
  pub marks : (l r : ℕ) → l < 8 → r < n → row_at n d l r + number (from_at l r) es ≡ 8192 + number (to_at l r) es

abbrev pub less_at : ℕ → List ℕ → List ℕ
less_at p d = set d p (get_or d p 0 - 1)

abbrev pub more_at : ℕ → List ℕ → List ℕ
more_at p d = set d p (get_or d p 0 + 1)

abbrev pub marked_by : ℕ → ℕ → ℕ → ℕ → List ℕ → List ℕ
marked_by n l f t d = more_at (l * n + t) (less_at (l * n + f) d)

pub record FreshMarks (n : ℕ) (d : List ℕ) : Type 0 where
  pub long : length d ≡ 8 * n
  pub fresh : (p : ℕ) → p < 8 * n → get_or d p 0 ≡ 8192

abbrev pub not_fresh : ℕ → Bool
not_fresh x = not (eqb x 8192)

-- ---- one layer

unfoldable pub run_to : ℕ → List ℕ → ℕ → ℕ → ℕ → ℕ
run_to n d l a zero = 8192
run_to n d l a (suc k) = taken_over (run_to n d l a k) (row_at n d l (a + k))

pub record SumOk (n l a b : ℕ) (c m d : List ℕ) : Type 0 where
  pub long : length c ≡ 8 * n
  pub covers : length m ≡ n
  pub marks : length d ≡ 8 * n
  pub few : n ≤ 8192
  pub layer : l < 8
  pub order : a ≤ b
  pub top : b < n
  pub run_enough : (k : ℕ) → a + k < b → 8192 ≤ run_to n d l a k + row_at n d l (a + k)
  pub run_fits : (k : ℕ) → a + k < b → run_to n d l a k + row_at n d l (a + k) < 65536
  pub enough : (k : ℕ) → a + k < b → 8192 ≤ row_at n c l (a + k) + run_to n d l a (suc k)
  pub fits : (k : ℕ) → a + k < b → row_at n c l (a + k) + run_to n d l a (suc k) < 65536

pub record SummedTo (n l a b : ℕ) (c₀ c m₀ m d₀ d : List ℕ) (e : ℕ) : Type 0 where
  pub counts : Passed 0 (λ p. taken_over (get_or c₀ p 0) (run_to n d₀ l a (suc (p - (l * n + a))))) (l * n + a) (l * n + b) c₀ c
  pub digits : Passed 0 (λ r. turned_to (get_or m₀ r 0) l (bit (covers (pos (taken_over (get_or c₀ (l * n + r) 0) (run_to n d₀ l a (suc (r - a)))) -ℤ pos 8192)))) a b m₀ m
  pub marks : Passed 0 (λ _. 8192) (l * n + a) e d₀ d

abbrev pub Summed : ℕ → ℕ → ℕ → ℕ → List ℕ → List ℕ → List ℕ → List ℕ → List ℕ → List ℕ → Type 0
Summed n l a b c₀ c m₀ m d₀ d = SummedTo n l a b c₀ c m₀ m d₀ d (l * n + b + 1)

-- ---- all layers

pub record Between (a b : ℕ) (es : List (Edge ℕ)) : Type 0 where
  pub none : (p : Edge ℕ → Bool) → ((l y f t : ℕ) → a ≤ f → a ≤ t → f ≤ b → t ≤ b → p (edge l y f t) ≡ false) → number p es ≡ 0

abbrev pub covers_at : ℕ → List ℕ → ℕ → ℕ → Bool
covers_at n c r l = covers (pos (row_at n c l r) -ℤ pos 8192)

pub record Covered (n : ℕ) (c m : List ℕ) : Type 0 where
  pub is : (r : ℕ) → r < n → get_or m r 0 ≡ of_bits 8 (covers_at n c r)

pub record LayerOk (n l a b : ℕ) (c m d : List ℕ) : Type 0 where
  pub sum : SumOk n l a b c m d
  pub covered : Covered n c m

pub record AllOk (n a b : ℕ) (c m d : List ℕ) : Type 0 where
  pub sums : (l : ℕ) → l < 8 → SumOk n l a b c m d
  pub covered : Covered n c m

pub record SummedBelow (n a b k : ℕ) (c₀ c m₀ m d₀ d : List ℕ) : Type 0 where
  pub long : length c ≡ length c₀
  pub long_covers : length m ≡ length m₀
  pub long_marks : length d ≡ length d₀
  pub counts : (l r : ℕ) → l < k → a ≤ r → r < b → row_at n c l r ≡ taken_over (row_at n c₀ l r) (run_to n d₀ l a (suc (r - a)))
  pub still : (l r : ℕ) → l < 8 → r < n → (l < k → a ≤ r → r < b → ⊥) → row_at n c l r ≡ row_at n c₀ l r
  pub covered : Covered n c m
  pub still_covers : (r : ℕ) → (a ≤ r → r < b → ⊥) → get_or m r 0 ≡ get_or m₀ r 0
  pub marks : (l r : ℕ) → l < k → a ≤ r → r ≤ b → row_at n d l r ≡ 8192
  pub still_marks : (l r : ℕ) → l < 8 → r < n → (l < k → a ≤ r → r ≤ b → ⊥) → row_at n d l r ≡ row_at n d₀ l r

abbrev pub SummedAll : ℕ → ℕ → ℕ → List ℕ → List ℕ → List ℕ → List ℕ → List ℕ → List ℕ → Type 0
SummedAll n a b c₀ c m₀ m d₀ d = SummedBelow n a b 8 c₀ c m₀ m d₀ d
