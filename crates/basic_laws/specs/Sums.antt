-- The sum of a number over the members of a list. Assumes nothing.
--
--   sum_of f xs       the sum of f over xs
--   sum_append, sum_map   of lists put together, and of images
--   number_sum       how many pass a test, as a sum
--   sum_all          of terms that are equal for every element
use Rattle.std.specs.Prelude.{◌≡◌, refl, Bool, List, [], ◌∷◌, ◌++◌, map, ℕ, ◌+◌}
use Rattle.std.proofs.Common.{sym, ap, arith, zero-add}
use Rattle.meaning.specs.Numbers.{bit}
use Rattle.meaning.specs.Edges.{number}
use Rattle.meaning.specs.Rings.{All}

unfoldable pub sum_of : {A : Type 0} → (A → ℕ) → List A → ℕ
sum_of f [] = 0
sum_of f (x ∷ xs) = f x + sum_of f xs

pub sum_append : {A : Type 0} (f : A → ℕ) (xs ys : List A) → sum_of f (xs ++ ys) ≡ sum_of f xs + sum_of f ys
unfolding sum_of
sum_append f [] ys = sym (zero-add (sum_of f ys))
sum_append f (x ∷ xs) ys = omega (arith, sum_append f xs ys)

pub sum_map : {A B : Type 0} (f : B → ℕ) (g : A → B) (xs : List A) → sum_of f (map g xs) ≡ sum_of (λ x. f (g x)) xs
unfolding sum_of
sum_map f g [] = refl
sum_map f g (x ∷ xs) = ap (◌+◌ (f (g x))) (sum_map f g xs)

pub sum_all : {A : Type 0} (f g : A → ℕ) (xs : List A) → All (λ x. f x ≡ g x) xs → sum_of f xs ≡ sum_of g xs
unfolding sum_of
sum_all f g [] h = refl
sum_all f g (x ∷ xs) h = omega (arith, h.0, sum_all f g xs h.1)

pub number_sum : {A : Type 0} (p : A → Bool) (xs : List A) → number p xs ≡ sum_of (λ x. bit (p x)) xs
unfolding number sum_of
number_sum p [] = refl
number_sum p (x ∷ xs) = ap (◌+◌ (bit (p x))) (number_sum p xs)
