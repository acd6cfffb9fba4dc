-- Lists: what stands in one, what holds of every element, and how many pass a test. Assumes nothing.
--
--   At xs v              the number v stands somewhere in xs
--   all_map, all_append, all_back, all_to_map   what holds of every element, `All P xs`: by a law, of lists put together and of their end, of images
--   all_at, all_of       it holds of each by its place, and the way back
--   all_by p xs           every element passes the test p; all_by_holds: so it holds of every element
--   number_same          tests that agree on every element count the same
--   number_none          a test that no element passes counts none
--   number_append, number_to_map   of lists put together, and of images
--   map_append, map_at   the image of lists put together, and an element of an image
use Rattle.std.specs.Prelude.{◌≡◌, refl, Bool, true, false, ◌&&◌, List, [], ◌∷◌, ◌++◌, map, ℕ, zero, suc, ◌+◌, ◌<◌, length, get_or}
use Rattle.std.proofs.Common.{sym, ap, ap₂, ◌∙◌, arith, not-suc-le-zero, le_of_suc-le-suc}
use Rattle.meaning.specs.Numbers.{bit}
use Rattle.meaning.specs.Edges.{number}
use Rattle.basic_laws.specs.Tests.{and_left, and_right}
use Rattle.basic_laws.specs.Sums.{number_sum, sum_append, sum_map, sum_all}
pub use Rattle.meaning.specs.Rings.{All}

pub record At (xs : List ℕ) (v : ℕ) : Type 0 where
  pub place : ℕ
  pub within : place < length xs
  pub is : get_or xs place 0 ≡ v

pub all_map : {A : Type 0} (P Q : A → Type 0) (xs : List A) → ((x : A) → P x → Q x) → All P xs → All Q xs
all_map P Q [] f h = tt
all_map P Q (x ∷ xs) f h = (f x h.0, all_map P Q xs f h.1)

pub all_append : {A : Type 0} (P : A → Type 0) (xs ys : List A) → All P xs → All P ys → All P (xs ++ ys)
all_append P [] ys h k = k
all_append P (x ∷ xs) ys h k = (h.0, all_append P xs ys h.1 k)

pub all_back : {A : Type 0} (P : A → Type 0) (xs ys : List A) → All P (xs ++ ys) → All P ys
all_back P [] ys h = h
all_back P (x ∷ xs) ys h = all_back P xs ys h.1

pub all_to_map : {A B : Type 0} (P : B → Type 0) (f : A → B) (xs : List A) → All (λ x. P (f x)) xs → All P (map f xs)
all_to_map P f [] h = tt
all_to_map P f (x ∷ xs) h = (h.0, all_to_map P f xs h.1)

pub all_at : {A : Type 0} (P : A → Type 0) (xs : List A) (k : ℕ) (d : A) → All P xs → k < length xs → P (get_or xs k d)
all_at P [] k d h l = absurd (not-suc-le-zero l)
all_at P (x ∷ xs) zero d h l = h.0
all_at P (x ∷ xs) (suc k) d h l = all_at P xs k d h.1 (le_of_suc-le-suc l)

pub all_of : {A : Type 0} (P : A → Type 0) (xs : List A) (d : A) → ((k : ℕ) → k < length xs → P (get_or xs k d)) → All P xs
all_of P [] d h = tt
all_of P (x ∷ xs) d h = (h 0 (omega arith), all_of P xs d (λ k l. h (suc k) (omega arith)))

unfoldable pub all_by : {A : Type 0} → (A → Bool) → List A → Bool
all_by p [] = true
all_by p (x ∷ xs) = p x && all_by p xs

pub all_by_holds : {A : Type 0} (p : A → Bool) (xs : List A) → all_by p xs ≡ true → All (λ x. p x ≡ true) xs
unfolding all_by
all_by_holds p [] h = tt
all_by_holds p (x ∷ xs) h = (and_left (p x) (all_by p xs) h, all_by_holds p xs (and_right (p x) (all_by p xs) h))

pub number_same : {A : Type 0} (p q : A → Bool) (xs : List A) → All (λ x. p x ≡ q x) xs → number p xs ≡ number q xs
number_same p q xs h = number_sum p xs ∙ sum_all (λ x. bit (p x)) (λ x. bit (q x)) xs (all_map (λ x. p x ≡ q x) (λ x. bit (p x) ≡ bit (q x)) xs (λ x e. ap bit e) h) ∙ sym (number_sum q xs)

pub number_none : {A : Type 0} (p : A → Bool) (xs : List A) → All (λ x. p x ≡ false) xs → number p xs ≡ 0
unfolding number
number_none p [] h = refl
number_none p (x ∷ xs) h = ap₂ (λ (b : Bool) (n : ℕ). bit b + n) h.0 (number_none p xs h.1)

pub number_append : {A : Type 0} (p : A → Bool) (xs ys : List A) → number p (xs ++ ys) ≡ number p xs + number p ys
number_append p xs ys = number_sum p (xs ++ ys) ∙ sum_append (λ x. bit (p x)) xs ys ∙ sym (ap₂ ◌+◌ (number_sum p xs) (number_sum p ys))

pub number_to_map : {A B : Type 0} (p : B → Bool) (f : A → B) (xs : List A) → number p (map f xs) ≡ number (λ x. p (f x)) xs
number_to_map p f xs = number_sum p (map f xs) ∙ sum_map (λ x. bit (p x)) f xs ∙ sym (number_sum (λ x. p (f x)) xs)

pub map_append : {A B : Type 0} (f : A → B) (xs ys : List A) → map f (xs ++ ys) ≡ map f xs ++ map f ys
map_append f [] ys = refl
map_append f (x ∷ xs) ys = ap (◌∷◌ (f x)) (map_append f xs ys)

pub map_at : {A B : Type 0} (f : A → B) (xs : List A) (k : ℕ) (d : A) (e : B) → k < length xs → get_or (map f xs) k e ≡ f (get_or xs k d)
map_at f [] k d e h = absurd (not-suc-le-zero h)
map_at f (x ∷ xs) zero d e h = refl
map_at f (x ∷ xs) (suc k) d e h = map_at f xs k d e (le_of_suc-le-suc h)
