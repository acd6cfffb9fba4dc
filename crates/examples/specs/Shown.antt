-- How an example is computed: the result of a list that passes four tests is what its own places show. Assumes nothing.
--
--   steps_of ns          the edges in steps
--   shown holds ns      the records that the places of the edges show
--   fit ns              the list is sound, closed, and within the range in steps, as a test
--   result_shown        the result is what the places show
--   cells_shown         and its cells are what the horizontals so found add up to
--   fit_closed, fit_sound   what the test says
use Rattle.std.specs.Prelude.{◌≡◌, true, false, ◌&&◌, leb, ℤ}
use Rattle.std.proofs.Math.Path.{ap}
use Rattle.std.proofs.Common.{◌∙◌, arith}
use Rattle.std.proofs.Math.Bool.{Bool}
use mathlib.Core.List.{List, map}
use Prim.Native.Nat.{ℕ, ◌+◌, ◌*◌}
use Rattle.meaning.specs.Numbers.{limit}
use Rattle.meaning.specs.Edges.{Edge, Closed, sound_edge}
use Rattle.meaning.specs.Cells.{inside, Within}
use Rattle.meaning.specs.Records.{Record, result}
use Rattle.meaning.specs.Area.{cells}
use Rattle.basic_laws.specs.Tests.{and_left, and_right}
use Rattle.basic_laws.specs.Sound.{Sound, lifted}
use Rattle.grid_laws.specs.Plane.{inside_n, level_n, kind_n, kind_at, result_n, result_at, xs_of, ys_of, sorted, ClosedN}
use Rattle.grid_laws.specs.Compression.{result_sorted, levels_sorted}
use Rattle.grid_laws.specs.ClosedTest.{closed_test, closed_by, within_all}
use Rattle.basic_laws.specs.Sums.{sum_of}
use Rattle.basic_laws.specs.Steps.{lowered}
use Rattle.basic_laws.specs.Lists.{all_by, all_by_holds}
use Rattle.grid_laws.specs.AreaLaws.{plus, minus, area}
use Rattle.laws.specs.View.{view, result_view, cells_view, within_bounded}
use Rattle.laws.specs.Covered.{inside_view, view_closed, inside_within}

abbrev pub steps_of : List (Edge ℤ) → List (Edge ℕ)
steps_of es = map (lifted limit) es

unfoldable pub fit : List (Edge ℤ) → Bool
fit es = all_by (sound_edge 7 limit) es && (closed_test (steps_of es) && (all_by (λ p. leb p (2 * limit)) (xs_of (steps_of es)) && all_by (λ p. leb p (2 * limit)) (ys_of (steps_of es))))

unfoldable pub shown : ((ℕ → Bool) → Bool) → List (Edge ℤ) → List (Record ℤ)
shown holds es = map (lowered limit) (result_at (inside_n holds (steps_of es)) (sorted (xs_of (steps_of es))) (sorted (ys_of (steps_of es))))

unfoldable pub levels : ((ℕ → Bool) → Bool) → List (Edge ℤ) → List (Record ℕ)
levels holds es = kind_at 0 (level_n (inside_n holds (steps_of es))) (sorted (ys_of (steps_of es))) (sorted (xs_of (steps_of es)))

module _ (es : List (Edge ℤ)) (h : fit es ≡ true) where
  pub fit_sound : Sound 7 limit es
  unfolding fit
  fit_sound = all_by_holds (sound_edge 7 limit) es (and_left (all_by (sound_edge 7 limit) es) _ h)

  rest : (closed_test (steps_of es) && (all_by (λ p. leb p (2 * limit)) (xs_of (steps_of es)) && all_by (λ p. leb p (2 * limit)) (ys_of (steps_of es)))) ≡ true
  unfolding fit
  rest = and_right (all_by (sound_edge 7 limit) es) _ h

  fit_closed_n : ClosedN (steps_of es)
  fit_closed_n = closed_by (steps_of es) (and_left (closed_test (steps_of es)) _ rest)

  pub fit_closed : Closed es
  fit_closed = view_closed 7 limit es fit_sound fit_closed_n

  module _ (holds : (ℕ → Bool) → Bool) (empty : holds (λ c. false) ≡ false) where
    within : Within limit (inside holds es)
    within = inside_within 7 limit holds empty es fit_sound fit_closed

    xs_in : all_by (λ p. leb p (2 * limit)) (xs_of (steps_of es)) ≡ true
    xs_in = and_left (all_by (λ p. leb p (2 * limit)) (xs_of (steps_of es))) _ (and_right (closed_test (steps_of es)) _ rest)

    ys_in : all_by (λ p. leb p (2 * limit)) (ys_of (steps_of es)) ≡ true
    ys_in = and_right (all_by (λ p. leb p (2 * limit)) (xs_of (steps_of es))) _ (and_right (closed_test (steps_of es)) _ rest)

    pub result_shown : result limit (inside holds es) ≡ shown holds es
    unfolding shown
    result_shown =
        result_view limit (inside holds es) within
        ∙ ap (λ (g : ℕ → ℕ → Bool). map (lowered limit) (result_n (2 * limit) g)) (inside_view 7 limit holds es fit_sound)
        ∙ ap (map (lowered limit)) (result_sorted holds empty (steps_of es) fit_closed_n (2 * limit) (within_all (2 * limit) (xs_of (steps_of es)) xs_in) (within_all (2 * limit) (ys_of (steps_of es)) ys_in))

    pub cells_shown : cells limit (inside holds es) + sum_of minus (levels holds es) ≡ sum_of plus (levels holds es)
    unfolding levels
    cells_shown =
        let g : ℕ → ℕ → Bool = view limit (inside holds es) in
        let v = inside_view 7 limit holds es fit_sound in
        let a = area (2 * limit) (view limit (inside holds es)) (λ i. (within_bounded limit (inside holds es) within).top i (2 * limit) (omega arith)) in
        let l = levels_sorted holds empty (steps_of es) fit_closed_n (2 * limit) (within_all (2 * limit) (xs_of (steps_of es)) xs_in) (within_all (2 * limit) (ys_of (steps_of es)) ys_in) in
        let k : kind_n 0 (level_n (view limit (inside holds es))) (2 * limit) ≡ kind_at 0 (level_n (inside_n holds (steps_of es))) (sorted (ys_of (steps_of es))) (sorted (xs_of (steps_of es))) =
        ap (λ (g : ℕ → ℕ → Bool). kind_n 0 (level_n g) (2 * limit)) v ∙ l in
        let p = ap (sum_of plus) k in
        let m = ap (sum_of minus) k in
        omega (arith, a, p, m, cells_view limit (inside holds es))
