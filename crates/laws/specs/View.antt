-- The step view: the result over whole numbers is that of `grid`, with each step lowered to its coordinate. Assumes nothing.
--
--   view L g            the set of cells g in steps
--   level_view, upright_view   the unit pieces agree, where no cell lies outside the range
--   result_view         THE VIEW: result L g is result_n (2 * L) (view L g), lowered
--   cells_view          and its cells are counted alike
--   within_bounded      a set of cells within the range is bounded in steps
use Rattle.std.specs.Prelude.{◌≡◌, refl, Bool, true, ℕ, zero, suc, ◌-◌, ◌*◌, ◌≤◌, ℤ, pos, neg_ℤ}
use Rattle.std.proofs.Math.Path.{sym, ap, ap₂, fun_ext}
use Rattle.std.proofs.Common.{◌∙◌, arith, lt-ltb, le-leb}
use mathlib.Core.List.{List, [], ◌∷◌, ◌++◌, map}
use Rattle.std.proofs.Math.IntN.{pred_ℤ}
use Rattle.std.specs.Int.Signed.{lt_z, le_z}
use Rattle.meaning.specs.Numbers.{step}
use Rattle.meaning.specs.Cells.{Dir, off, fwd, bwd, turn, level, upright, Within}
use Rattle.meaning.specs.Records.{Run, run, line, Record, rec, record_of, each, kind_of, result}
use Rattle.meaning.specs.Area.{cells}
use Rattle.basic_laws.specs.Lists.{map_append}
use Rattle.basic_laws.specs.Signed.{minus_sub, sub_pos, sub_neg}
use Rattle.basic_laws.specs.Steps.{step_pred, lowered}
use Rattle.grid_laws.specs.Plane.{prior, level_n, upright_n, record_at, kind_n, result_n}
use Rattle.grid_laws.specs.AreaLaws.{cells_n}
use Rattle.grid_laws.specs.Beside.{Bounded}

abbrev pub view : ℕ → (ℤ → ℤ → Bool) → ℕ → ℕ → Bool
view L g i j = g (step L i) (step L j)

-- ---- lists

map_each : {A B : Type 0} (f : A → B) (h : ℕ → List A) (a n : ℕ) → each (λ p. map f (h p)) a n ≡ map f (each h a n)
unfolding each
map_each f h a zero = refl
map_each f h a (suc n) = ap (◌++◌ (map f (h a))) (map_each f h (suc a) n) ∙ sym (map_append f (h a) (each h (suc a) n))

lower_line : (L kind p : ℕ) (rs : List Run) → map (record_of (step L) kind (step L p)) rs ≡ map (lowered L) (map (record_at kind p) rs)
lower_line L kind p [] = refl
lower_line L kind p (run lo hi off ∷ rs) = ap (◌∷◌ (rec kind (step L p) (step L lo) (step L lo))) (lower_line L kind p rs)
lower_line L kind p (run lo hi fwd ∷ rs) = ap (◌∷◌ (rec kind (step L p) (step L lo) (step L hi))) (lower_line L kind p rs)
lower_line L kind p (run lo hi bwd ∷ rs) = ap (◌∷◌ (rec kind (step L p) (step L hi) (step L lo))) (lower_line L kind p rs)

pub kind_view : (L kind : ℕ) (F : ℤ → ℤ → Dir) → kind_of L kind F ≡ map (lowered L) (kind_n kind (λ p k. F (step L p) (step L k)) (2 * L))
unfolding kind_of kind_n
kind_view L kind F =
    ap (λ (h : ℕ → List (Record ℤ)). each h 0 (suc (2 * L))) (fun_ext (λ p. lower_line L kind p (line (λ k. F (step L p) (step L k)) 0 (2 * L))))
    ∙ map_each (lowered L) (λ p. map (record_at kind p) (line (λ k. F (step L p) (step L k)) 0 (2 * L))) 0 (suc (2 * L))

-- ---- the number before the least coordinate

pub first_step : (L : ℕ) → step L 0 ≡ neg_ℤ (pos L)
unfolding step
first_step zero = refl
first_step (suc L) = minus_sub 0 (suc L) ∙ sub_neg 0 (suc L) L (omega arith)

pub before_first : (L : ℕ) → lt_z (pred_ℤ (step L 0)) (neg_ℤ (pos L)) ≡ true
before_first L = ap (λ (z : ℤ). lt_z (pred_ℤ z) (neg_ℤ (pos L))) (first_step L) ∙ go L
  where
    go : (L : ℕ) → lt_z (pred_ℤ (neg_ℤ (pos L))) (neg_ℤ (pos L)) ≡ true
    go zero = refl
    go (suc L) = lt-ltb L (suc L) (omega arith)

pub last_step : (L n : ℕ) → 2 * L ≤ n → le_z (pos L) (step L n) ≡ true
unfolding step
last_step L n h = ap (le_z (pos L)) (minus_sub n L ∙ sub_pos n L (n - L) (omega arith)) ∙ le-leb L (n - L) (omega arith)

pub last_is : (L : ℕ) → step L (2 * L) ≡ pos L
unfolding step
last_is L = minus_sub (2 * L) L ∙ sub_pos (2 * L) L L (omega arith)

-- ---- pieces

module _ (L : ℕ) (g : ℤ → ℤ → Bool) (w : Within L g) where
  below_view : (i : ℤ) (y : ℕ) → g i (pred_ℤ (step L y)) ≡ prior (λ j. g i (step L j)) y
  below_view i zero = w.below i (pred_ℤ (step L 0)) (before_first L)
  below_view i (suc y) = ap (g i) (step_pred L y)

  left_view : (j : ℤ) (x : ℕ) → g (pred_ℤ (step L x)) j ≡ prior (λ i. g (step L i) j) x
  left_view j zero = w.left (pred_ℤ (step L 0)) j (before_first L)
  left_view j (suc x) = ap (λ (i : ℤ). g i j) (step_pred L x)

  pub level_view : (y i : ℕ) → level g (step L y) (step L i) ≡ level_n (view L g) y i
  unfolding level level_n
  level_view y i = ap (λ (b : Bool). turn b (g (step L i) (step L y))) (below_view (step L i) y)

  pub upright_view : (x j : ℕ) → upright g (step L x) (step L j) ≡ upright_n (view L g) x j
  unfolding upright upright_n
  upright_view x j = ap (turn (g (step L x) (step L j))) (left_view (step L j) x)

  pub levels_view : kind_of L 0 (level g) ≡ map (lowered L) (kind_n 0 (level_n (view L g)) (2 * L))
  levels_view =
      kind_view L 0 (level g)
      ∙ ap (λ (F : ℕ → ℕ → Dir). map (lowered L) (kind_n 0 F (2 * L))) (fun_ext (λ y. fun_ext (λ i. level_view y i)))

  pub uprights_view : kind_of L 1 (upright g) ≡ map (lowered L) (kind_n 1 (upright_n (view L g)) (2 * L))
  uprights_view =
      kind_view L 1 (upright g)
      ∙ ap (λ (F : ℕ → ℕ → Dir). map (lowered L) (kind_n 1 F (2 * L))) (fun_ext (λ x. fun_ext (λ j. upright_view x j)))

  pub result_view : result L g ≡ map (lowered L) (result_n (2 * L) (view L g))
  unfolding result result_n
  result_view =
      ap₂ (λ (a b : List (Record ℤ)). a ++ b) levels_view uprights_view
      ∙ sym (map_append (lowered L) (kind_n 0 (level_n (view L g)) (2 * L)) (kind_n 1 (upright_n (view L g)) (2 * L)))

  pub within_bounded : Bounded (2 * L) (view L g)
  within_bounded = record {
    right = λ i j h. w.right (step L i) (step L j) (last_step L i h);
    top = λ i j h. w.above (step L i) (step L j) (last_step L j h);
  }

pub cells_view : (L : ℕ) (g : ℤ → ℤ → Bool) → cells L g ≡ cells_n (2 * L) (view L g)
unfolding cells cells_n
cells_view L g = refl
