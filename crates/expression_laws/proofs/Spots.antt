-- Spot checks of the grammar and of refusals 6 to 9, computed: the texts of specs/Spots.antt with their answers; and what document 01's two sentences on grouping
-- say. Assumes nothing.
--
--   right         each answer is the one that the table of refusals gives
--   grouped       `a-b*c` is (a and not b) and c; `a+b*c` is a or (b and c); `a-b-c` and `a^b+c` go from left to right; `!` binds tightest
use Rattle.std.specs.Prelude.{◌≡◌, refl, not, ◌&&◌, ◌||◌, List, [], ◌∷◌, map, ℕ, length}
use Rattle.std.proofs.Common.{subst, le_refl}
use Rattle.meaning.specs.Numbers.{pick}
use Rattle.meaning.specs.Expression.{bytes, Expr, Handed, eval, Means, Judged}
use Rattle.expression_laws.specs.Reader.{got, a_sum, letter_at, read, reads}
use Rattle.expression_laws.specs.Meanings.{read_whole}
use Rattle.expression_laws.specs.Judging.{answer_to, answer_to_right}
use Rattle.expression_laws.specs.Spots.{Right, Spot, spots}

computed : map (λ (x : Spot). answer_to x.text) spots ≡ map (λ (x : Spot). x.answer) spots
unfolding bytes answer_to reads read letter_at eval
computed = refl

by_computing : (xs : List Spot) → map (λ (x : Spot). answer_to x.text) xs ≡ map (λ (x : Spot). x.answer) xs → Right xs
by_computing [] e = tt
by_computing (x ∷ xs) e =
    let p : answer_to x.text ≡ x.answer = cc in
    let q : map (λ (y : Spot). answer_to y.text) xs ≡ map (λ (y : Spot). y.answer) xs = cc in
    (subst (Judged x.text) p (answer_to_right x.text), by_computing xs q)

pub right : Right spots
right = by_computing spots computed

-- ---- grouping

meant : (s : List ℕ) (e : Expr) → reads s a_sum 0 ≡ got e (length s) → (h : Handed) → Means s h (eval h e)
meant s e q h = record { expr = e; is = read_whole s q (le_refl (length s)); value = refl }

pub grouped : (h : Handed)
    → Means (bytes "a-b*c") h ((h 0 && not (h 1)) && h 2)
    × Means (bytes "a+b*c") h (h 0 || (h 1 && h 2))
    × Means (bytes "a-b-c") h ((h 0 && not (h 1)) && not (h 2))
    × Means (bytes "a^b+c") h (pick (h 0) (not (h 1)) (h 1) || h 2)
    × Means (bytes "!a*b") h (not (h 0) && h 1)
unfolding bytes reads read letter_at eval
grouped h = (
  meant (bytes "a-b*c") _ refl h,
  meant (bytes "a+b*c") _ refl h,
  meant (bytes "a-b-c") _ refl h,
  meant (bytes "a^b+c") _ refl h,
  meant (bytes "!a*b") _ refl h,
)
