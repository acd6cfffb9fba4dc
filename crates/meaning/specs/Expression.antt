-- The expression: which texts are one, what it means over what covers a cell, and its refusals.
--
--   bytes "a*b"         the bytes of a quoted text
--   Operator            and, and not, or, exclusive or
--   joins o v w         the value of an operator between two values
--   Expr                an expression: the layer of a letter, not, an operator between two
--   Handed              what is handed to the evaluator: which layers cover
--   nothing             no layer covers
--   with_layer h l v    as h, but the layer l covers exactly where v holds
--   eval h e            the value of e where h is handed
--   Is level t e        the text t is, at that level of the grammar, the expression e
--   InGrammar s         the text s is in the grammar
--   Means s h v         the text s is an expression of the value v where h is handed
--   Depends s l         the text s depends on the layer l
--   often b s           how often the byte b stands in the text s
--   Deep s              some beginning of s has over 16 more `(` than `)`
--   refusals s          the rows 6 to 9 of the table for the text s, in order
--   Judged s r          r is the answer that the table gives to the text s
--
-- A text is a list of bytes.
use Rattle.std.specs.Prelude.{◌≡◌, ◌⊎◌, Bool, true, false, not, ◌&&◌, ◌||◌, List, [], ◌∷◌, ◌++◌, ℕ, ◌+◌, ◌≤◌, ◌<◌, eqb, length, take}
use Prim.Native.Char.{code}
use Prim.Native.String.{String}
use Rattle.meaning.specs.Numbers.{pick}
use Rattle.meaning.specs.Answers.{Answer, accepted, Row, given, First, expression_length, too_deep, not_in_grammar, holds_on_nothing}
use Rattle.meaning.specs.Edges.{number}

unfoldable pub bytes : String → List ℕ
bytes String.[] = []
bytes (String.◌∷◌ c s) = code c ∷ bytes s

-- ---- what an expression is, and its value

pub data Operator : Type 0 where
  and and_not or exclusive_or : Operator

-- "`*` and, `-` and not, `+` or, `^` exclusive or"
abbrev pub joins : Operator → Bool → Bool → Bool
joins and v w = v && w
joins and_not v w = v && not w
joins or v w = v || w
joins exclusive_or v w = pick v (not w) w

-- a letter by its layer: "eight layers a to h (numbers 0 to 7)"
pub data Expr : Type 0 where
  letter : ℕ → Expr
  negated : Expr → Expr
  joined : Operator → Expr → Expr → Expr

abbrev pub Handed : Type 0
Handed = ℕ → Bool

abbrev pub nothing : Handed
nothing l = false

abbrev pub with_layer : Handed → ℕ → Bool → Handed
with_layer h l v k = pick (eqb k l) v (h k)

unfoldable pub eval : Handed → Expr → Bool
eval h (letter l) = h l
eval h (negated e) = not (eval h e)
eval h (joined o e f) = joins o (eval h e) (eval h f)

-- ---- the grammar

-- "`!` binds tightest; `*` and `-` come next, left to right; `+` and `^` last, left to right."
pub data Level : Type 0 where
  factor product sum : Level

-- "Letters a to h .. parentheses; no blanks."; "A sum is made of products, a product of factors, and a factor may hold a sum in
-- parentheses again; else a factor is a letter, or `!` before a factor."
pub data Is : Level → List ℕ → Expr → Type 0 where
  a_letter : {l : ℕ} → l ≤ 7 → Is factor ((code "a" + l) ∷ []) (letter l)
  not_before : {t : List ℕ} {e : Expr} → Is factor t e → Is factor (code "!" ∷ t) (negated e)
  in_parentheses : {t : List ℕ} {e : Expr} → Is sum t e → Is factor (code "(" ∷ (t ++ (code ")" ∷ []))) e
  one_factor : {t : List ℕ} {e : Expr} → Is factor t e → Is product t e
  times : {t u : List ℕ} {e f : Expr} → Is product t e → Is factor u f → Is product (t ++ (code "*" ∷ u)) (joined and e f)
  minus : {t u : List ℕ} {e f : Expr} → Is product t e → Is factor u f → Is product (t ++ (code "-" ∷ u)) (joined and_not e f)
  one_product : {t : List ℕ} {e : Expr} → Is product t e → Is sum t e
  plus : {t u : List ℕ} {e f : Expr} → Is sum t e → Is product u f → Is sum (t ++ (code "+" ∷ u)) (joined or e f)
  caret : {t u : List ℕ} {e f : Expr} → Is sum t e → Is product u f → Is sum (t ++ (code "^" ∷ u)) (joined exclusive_or e f)

-- the row 8 of the table is given exactly when this fails
abbrev pub InGrammar : List ℕ → Type 0
InGrammar s = (e : Expr) × Is sum s e

pub record Means (s : List ℕ) (h : Handed) (v : Bool) : Type 0 where
  pub expr : Expr
  pub is : Is sum s expr
  pub value : v ≡ eval h expr

-- two covers that differ in the layer l alone give different values
pub record Depends (s : List ℕ) (l : ℕ) : Type 0 where
  pub one : Handed
  pub other : Handed
  pub alike : (k : ℕ) → (k ≡ l → ⊥) → one k ≡ other k
  pub value : Bool
  pub at_one : Means s one value
  pub at_other : Means s other (not value)

-- ---- the refusals

unfoldable pub often : ℕ → List ℕ → ℕ
often b s = number (λ x. eqb x b) s

-- "some beginning of it has over 16 more `(` than `)`"
unfoldable pub Deep : List ℕ → Type 0
Deep s = (k : ℕ) × (k ≤ length s) × (often (code ")") (take k s) + 16 < often (code "(") (take k s))

-- "expression of 0 or over 64 bytes"; "some beginning .."; "not in the grammar"; "holds where nothing covers": "An expression that holds where no layer covers would have an
-- unbounded result .. and is refused."
abbrev pub refusals : List ℕ → List (Row Answer)
refusals s =
    given ((length s ≡ 0) ⊎ (64 < length s)) expression_length
    ∷ given (Deep s) too_deep
    ∷ given (InGrammar s → ⊥) not_in_grammar
    ∷ given (Means s nothing true) holds_on_nothing
    ∷ []

unfoldable pub Judged : List ℕ → Answer → Type 0
Judged s = First (refusals s) (λ r. r ≡ accepted 0)
