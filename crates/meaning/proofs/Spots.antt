-- Spot checks: small cases of the definitions, computed. A definition that says something else does not get past them.
use Rattle.std.specs.Prelude.{◌≡◌, refl, Bool, true, false, List, [], ◌∷◌, ◌++◌, eqb, ℤ, pos, negsuc}
use Rattle.std.proofs.Common.{lit≤}
use Rattle.meaning.specs.Numbers.{pick, eq_z}
use Rattle.meaning.specs.Edges.{edge, edges_of, west, east, on, up_to, number, wests, easts, count, covers}
use Rattle.meaning.specs.Cells.{Dir, off, fwd, bwd, inside, level, upright}
use Rattle.meaning.specs.Records.{Run, run, line, rec, put_in, before, passes}
use Rattle.meaning.specs.Area.{signed_sum}
use Rattle.meaning.specs.Expression.{bytes, and, and_not, or, exclusive_or, joins, letter, negated, joined, sum, Is, a_letter, not_before, one_factor, times, minus, one_product, plus}

-- A of document 01, as numbers: the square from (0, 0) to (10, 5)
abbrev pub A : List ℤ
A = pos 0 ∷ pos 0 ∷ pos 10 ∷ pos 0 ∷ pos 0 ∷ pos 5 ∷ pos 0 ∷ pos 10 ∷ []

-- a cell in it, one above it and one beside it; drawn twice it counts twice, and still covers
pub counts : (count (edges_of A) 0 (pos 0) (pos 0) ≡ pos 1) × (count (edges_of A) 0 (pos 9) (pos 5) ≡ pos 0) × (count (edges_of A) 0 (pos 10) (pos 4) ≡ pos 0) × (count (edges_of (A ++ A)) 0 (pos 3) (pos 4) ≡ pos 2)
unfolding edges_of count wests easts number on west east up_to eq_z
counts = (refl, refl, refl, refl)

-- the coverage rule
pub rule : (covers (negsuc 0) ≡ false) × (covers (pos 0) ≡ false) × (covers (pos 1) ≡ true) × (covers (pos 2) ≡ true)
unfolding covers
rule = (refl, refl, refl, refl)

-- the four sides of A: west below, east above; north on its left, south on its right
abbrev pub cells_of_a : ℤ → ℤ → Bool
cells_of_a = inside (λ v. v 0) (edges_of A)

pub sides : (level cells_of_a (pos 0) (pos 4) ≡ bwd) × (level cells_of_a (pos 5) (pos 4) ≡ fwd) × (upright cells_of_a (pos 0) (pos 2) ≡ fwd) × (upright cells_of_a (pos 10) (pos 2) ≡ bwd) × (level cells_of_a (pos 3) (pos 4) ≡ off)
unfolding edges_of inside level upright covers count wests easts number on west east up_to eq_z
sides = (refl, refl, refl, refl, refl)

-- pieces 0, 1 and 2 of one direction, and 3 of the other: joined where they go on, two records where the direction turns
abbrev pub four : Dir → List Run
four d = line (λ k. pick (eqb k 3) d fwd) 0 4

pub joins_runs : (four fwd ≡ run 0 4 fwd ∷ []) × (four bwd ≡ run 0 3 fwd ∷ run 3 4 bwd ∷ []) × (four off ≡ run 0 3 fwd ∷ [])
unfolding line
joins_runs = (refl, refl, refl)

-- the order, and what a record passes
pub order : (before (rec 0 (pos 5) (pos 6) (pos 10)) (rec 1 (negsuc 6) (pos 2) (pos 5)) ≡ true) × (before (rec 0 (pos 2) (pos 6) (pos 10)) (rec 0 (pos 2) (pos 14) (pos 10)) ≡ true) × (before (rec 0 (pos 2) (pos 6) (pos 10)) (rec 0 (pos 2) (pos 10) (pos 14)) ≡ false)
unfolding before eq_z
order = (refl, refl, refl)

pub passed : (passes 0 (pos 2) (pos 6) true (rec 0 (pos 2) (pos 6) (pos 10)) ≡ true) × (passes 0 (pos 2) (pos 10) true (rec 0 (pos 2) (pos 6) (pos 10)) ≡ false) × (passes 0 (pos 2) (pos 6) false (rec 0 (pos 2) (pos 6) (pos 10)) ≡ false)
unfolding passes eq_z
passed = (refl, refl, refl)

-- a result put in as layer 2: its kind 0 records alone; and the sum that is its area
pub in_as_layer : put_in 2 (rec 0 (pos 0) (pos 10) (pos 0) ∷ rec 1 (pos 0) (pos 0) (pos 5) ∷ []) ≡ edge (pos 2) (pos 0) (pos 10) (pos 0) ∷ []
unfolding put_in
in_as_layer = refl

pub summed : signed_sum (rec 0 (negsuc 1) (pos 10) (pos 0) ∷ rec 0 (pos 3) (pos 0) (pos 10) ∷ rec 1 (pos 7) (negsuc 1) (pos 3) ∷ []) ≡ pos 50
unfolding signed_sum
summed = refl

-- `a-b*c` is (a and not b) and c, from left to right; `a+b*c` is a or (b and c); `!` binds tightest
pub from_the_left : Is sum (bytes "a-b*c") (joined and (joined and_not (letter 0) (letter 1)) (letter 2))
unfolding bytes
from_the_left = one_product (times (minus (one_factor (a_letter (lit≤ tt))) (a_letter (lit≤ tt))) (a_letter (lit≤ tt)))

pub products_first : Is sum (bytes "a+b*c") (joined or (letter 0) (joined and (letter 1) (letter 2)))
unfolding bytes
products_first = plus (one_product (one_factor (a_letter (lit≤ tt)))) (times (one_factor (a_letter (lit≤ tt))) (a_letter (lit≤ tt)))

pub not_first : Is sum (bytes "!a*b") (joined and (negated (letter 0)) (letter 1))
unfolding bytes
not_first = one_product (times (one_factor (not_before (a_letter (lit≤ tt)))) (a_letter (lit≤ tt)))

pub operators : (joins and_not true true ≡ false) × (joins and_not true false ≡ true) × (joins exclusive_or true true ≡ false) × (joins or true true ≡ true)
operators = (refl, refl, refl, refl)
