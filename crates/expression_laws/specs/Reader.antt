-- A reader of texts as a function, by which the grammar is decided and the readers of the program are proved. No promise to a caller cites it.
--
--   Read                what reading gives: an expression with the place after it, or a refusal
--   tight, loose        the operators of a product, and of a sum
--   operator_of b        the operator whose byte is b
--   IsLetter b          the byte b is a letter
--   layer_of b           its layer
--   Part                what is read: a factor, a product, a sum, or what is left of a product or a sum that has begun
--   letter_at s at       a letter is read
--   step s r            one step of the reader whose own calls are r
--   reads s p at        the part p of the text s is read from the place at
use Rattle.std.specs.Prelude.{Bool, true, false, ◌||◌, List, ℕ, zero, suc, ◌+◌, ◌*◌, ◌-◌, ◌≤◌, eqb, leb, length, get_or}
use Prim.Native.Char.{code}
use Rattle.meaning.specs.Numbers.{pick}
use Rattle.meaning.specs.Expression.{Operator, and, and_not, or, exclusive_or, Expr, letter, negated, joined}

pub data Read : Type 0 where
  got : Expr → ℕ → Read
  refused : Read

abbrev pub tight : ℕ → Bool
tight b = eqb b (code "*") || eqb b (code "-")

abbrev pub loose : ℕ → Bool
loose b = eqb b (code "+") || eqb b (code "^")

abbrev pub operator_of : ℕ → Operator
operator_of b = pick (eqb b (code "*")) and (pick (eqb b (code "-")) and_not (pick (eqb b (code "+")) or exclusive_or))

abbrev pub IsLetter : ℕ → Type 0
IsLetter b = (code "a" ≤ b) × (b ≤ code "h")

abbrev pub layer_of : ℕ → ℕ
layer_of b = b - code "a"

pub data Part : Type 0 where
  a_factor a_product a_sum : Part
  product_on sum_on : Expr → Part

-- a choice whose ways wait until it is made
abbrev pub choose : Bool → (Unit {0} → Read) → (Unit {0} → Read) → Read
choose true f g = f tt
choose false f g = g tt

-- a refusal is handed straight on
abbrev pub then : Read → (Expr → ℕ → Read) → Read
then (got e i) k = k e i
then refused k = refused

unfoldable pub letter_at : List ℕ → ℕ → Read
letter_at s at =
    choose (leb (code "a") (get_or s at 0)) (λ _. choose (leb (get_or s at 0) (code "h")) (λ _. got (letter (layer_of (get_or s at 0))) (at + 1)) (λ _. refused))
    (λ _. refused)

-- a closing parenthesis after the expression e
abbrev pub closing : List ℕ → Expr → ℕ → Read
closing s e i = choose (eqb (get_or s i 0) (code ")")) (λ _. got e (i + 1)) (λ _. refused)

-- what is left of a chain of items that has come to e: an operator that joins and an item, or nothing
abbrev pub on : List ℕ → (ℕ → Bool) → (ℕ → Read) → (Expr → ℕ → Read) → Expr → ℕ → Read
on s joins item self e at =
    choose (joins (get_or s at 0)) (λ _. then (item (at + 1)) (λ f i. self (joined (operator_of (get_or s at 0)) e f) i)) (λ _. got e at)

abbrev pub step : List ℕ → (Part → ℕ → Read) → Part → ℕ → Read
step s r a_factor at =
    choose (eqb (get_or s at 0) (code "!")) (λ _. then (r a_factor (at + 1)) (λ e i. got (negated e) i))
    (λ _. choose (eqb (get_or s at 0) (code "(")) (λ _. then (r a_sum (at + 1)) (closing s)) (λ _. letter_at s at))
step s r a_product at = then (r a_factor at) (λ e i. r (product_on e) i)
step s r (product_on e) at = on s tight (r a_factor) (λ f i. r (product_on f) i) e at
step s r a_sum at = then (r a_product at) (λ e i. r (sum_on e) i)
step s r (sum_on e) at = on s loose (r a_product) (λ f i. r (sum_on f) i) e at

-- the reader with n steps at the most
unfoldable pub read : List ℕ → ℕ → Part → ℕ → Read
read s zero p at = refused
read s (suc n) p at = step s (read s n) p at

-- steps that are enough: three for each byte left, and the level
abbrev pub level : Part → ℕ
level a_factor = 1
level a_product = 2
level a_sum = 3
level (product_on e) = 1
level (sum_on e) = 1

abbrev pub enough : List ℕ → Part → ℕ → ℕ
enough s p at = 3 * (length s - at) + level p

unfoldable pub reads : List ℕ → Part → ℕ → Read
reads s p at = read s (enough s p at) p at
