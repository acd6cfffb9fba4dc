-- Cells counted, and the same from the records.
use Rattle.std.specs.Prelude.{◌≡◌, refl, Bool, true, false, ◌&&◌, List, [], ◌∷◌, map, ℕ, zero, suc, ◌+◌, ◌-◌, ◌*◌, ◌≤◌, ◌<◌, eqb}
use Rattle.std.proofs.Common.{sym, ap, ◌∙◌, arith, suc-add, zero-add, add-zero, add-suc, mul-add, mul-zero, eqb-true}
use Rattle.std.proofs.Math.Path.{fun_ext}
use Rattle.meaning.specs.Numbers.{bit}
use Rattle.meaning.specs.Cells.{Dir, off, fwd, bwd, goes, turn}
use Rattle.meaning.specs.Records.{Run, run, same_dir, join_if, join, put, line, Record, rec}
use Rattle.meaning.specs.Area.{total}
use Rattle.basic_laws.specs.Tests.{and_left, and_right}
use Rattle.grid_laws.specs.OneLine.{Good, same_true, line_good}
use Rattle.grid_laws.specs.Plane.{prior, level_n, record_at, kind_n}
use Rattle.basic_laws.specs.Sums.{sum_of, sum_map}
use Rattle.grid_laws.specs.Sums.{total_add, total_swap, sum_each}

-- the number of inside cells of the range
unfoldable pub cells_n : ℕ → (ℕ → ℕ → Bool) → ℕ
cells_n N g = total (λ i. total (λ j. bit (g i j)) 0 N) 0 N

-- ---- a sum over the runs of a line is one over its pieces

pub record Additive (φ : Run → ℕ) : Type 0 where
  pub none : (a b : ℕ) → φ (run a b off) ≡ 0
  pub both : (a b c : ℕ) (d : Dir) → a ≤ b → b ≤ c → φ (run a b d) + φ (run b c d) ≡ φ (run a c d)

sum_if : (φ : Run → ℕ) → Additive φ → (t : Bool) (a b : ℕ) (d : Dir) (l h : ℕ) (e : Dir) (rs : List Run) → (eqb l b && same_dir e d) ≡ t → a ≤ b → l < h
    → sum_of φ (join_if t a b d l h e rs) ≡ φ (run a b d) + (φ (run l h e) + sum_of φ rs)
unfolding sum_of
sum_if φ A true a b d l h e rs q p u =
    let le : l ≡ b = eqb-true l b (and_left (eqb l b) (same_dir e d) q) in
    let de : e ≡ d = same_true e d (and_right (eqb l b) (same_dir e d) q) in
    rw (le, de) (omega (arith, A.both a b h d p (omega arith)))
sum_if φ A false a b d l h e rs q p u = refl

sum_join : (φ : Run → ℕ) → Additive φ → (a b : ℕ) (d : Dir) (rs : List Run) → a ≤ b → Good b off rs → sum_of φ (join a b d rs) ≡ φ (run a b d) + sum_of φ rs
unfolding sum_of
sum_join φ A a b d [] p g = refl
sum_join φ A a b d (run l h e ∷ rs) p g = sum_if φ A (eqb l b && same_dir e d) a b d l h e rs refl p g.1

pub sum_put : (φ : Run → ℕ) → Additive φ → (a b : ℕ) (d : Dir) (rs : List Run) → a ≤ b → Good b off rs → sum_of φ (put a b d rs) ≡ φ (run a b d) + sum_of φ rs
sum_put φ A a b off rs p g = omega (arith, A.none a b)
sum_put φ A a b fwd rs p g = sum_join φ A a b fwd rs p g
sum_put φ A a b bwd rs p g = sum_join φ A a b bwd rs p g

pub sum_line : (φ : Run → ℕ) → Additive φ → (f : ℕ → Dir) (a n : ℕ) → sum_of φ (line f a n) ≡ total (λ k. φ (run k (suc k) (f k))) a n
unfolding line total sum_of
sum_line φ A f a zero = refl
sum_line φ A f a (suc n) =
    sum_put φ A a (suc a) (f a) (line f (suc a) n) (omega arith) (line_good f (suc a) n)
    ∙ ap (◌+◌ (φ (run a (suc a) (f a)))) (sum_line φ A f (suc a) n)

-- a sum over all records of one kind is one over all pieces
pub sum_kind : (ψ : Record ℕ → ℕ) (kind : ℕ) (F : ℕ → ℕ → Dir) (N : ℕ) → ((p : ℕ) → Additive (λ r. ψ (record_at kind p r)))
    → sum_of ψ (kind_n kind F N) ≡ total (λ p. total (λ k. ψ (record_at kind p (run k (suc k) (F p k)))) 0 N) 0 (suc N)
unfolding kind_n
sum_kind ψ kind F N A =
    sum_each ψ (λ p. map (record_at kind p) (line (F p) 0 N)) 0 (suc N)
    ∙ ap (λ (h : ℕ → ℕ). total h 0 (suc N)) (fun_ext (λ p. sum_map ψ (record_at kind p) (line (F p) 0 N) ∙ sum_line (λ r. ψ (record_at kind p r)) (A p) (F p) 0 N))

-- ---- a column from below

abbrev pub east : Dir → ℕ
east d = goes true d

abbrev pub west : Dir → ℕ
west d = goes false d

abbrev pub step_n : (ℕ → Bool) → ℕ → Dir
step_n h y = turn (prior h y) (h y)

-- passing a place
pass : (p q : Bool) → west (turn p q) + bit p ≡ east (turn p q) + bit q
pass true true = refl
pass true false = refl
pass false true = refl
pass false false = refl

pass_times : (a : ℕ) (p q : Bool) → a * east (turn p q) + suc a * bit q ≡ a * west (turn p q) + a * bit p + bit q
pass_times a true true = omega arith
pass_times a true false = omega arith
pass_times a false true = omega arith
pass_times a false false = omega arith

-- west pieces less east pieces up to and with a place, give what lies above it
pub climb : (h : ℕ → Bool) (a n : ℕ) → total (λ y. west (step_n h y)) a (suc n) + bit (prior h a) ≡ total (λ y. east (step_n h y)) a (suc n) + bit (h (a + n))
unfolding total
climb h a zero = rw (add-zero a) (omega (arith, pass (prior h a) (h a)))
climb h a (suc n) = rw (add-suc, ← suc-add) (omega (arith, pass (prior h a) (h a), climb h (suc a) n))

-- each weighted by its place: the cells between
pub weigh : (h : ℕ → Bool) (a n : ℕ) → h (a + n) ≡ false
    → total (λ y. y * east (step_n h y)) a (suc n) ≡ total (λ y. y * west (step_n h y)) a (suc n) + a * bit (prior h a) + total (λ j. bit (h j)) a n
unfolding total
weigh h a zero e =
    let z : bit (h a) ≡ 0 = ap bit (ap h (sym (add-zero a)) ∙ e) in
    omega (arith, pass_times a (prior h a) (h a), mul_zero_of a (bit (h a)) z)
  where
    mul_zero_of : (a b : ℕ) → b ≡ 0 → suc a * b ≡ 0
    mul_zero_of a b e = rw e (mul-zero (suc a))
weigh h a (suc n) e = omega (arith, pass_times a (prior h a) (h a), weigh h (suc a) n (ap h (omega arith) ∙ e))

-- ---- the area from the horizontal records: y * (to - from), east counted as more and west as less

abbrev pub plus : Record ℕ → ℕ
plus (rec kind y f t) = y * (t - f)

abbrev pub minus : Record ℕ → ℕ
minus (rec kind y f t) = y * (f - t)

times_parts : (y m n k : ℕ) → m + n ≡ k → y * m + y * n ≡ y * k
times_parts y m n k e = sym (mul-add y m n) ∙ ap (◌*◌ y) e

pub times_none : (y m : ℕ) → m ≡ 0 → y * m ≡ 0
times_none y m e = ap (◌*◌ y) e ∙ mul-zero y

pub plus_additive : (kind y : ℕ) → Additive (λ r. plus (record_at kind y r))
plus_additive kind y = record { none = λ a b. times_none y (a - a) (omega arith); both = go }
  where
    go : (a b c : ℕ) (d : Dir) → a ≤ b → b ≤ c → plus (record_at kind y (run a b d)) + plus (record_at kind y (run b c d)) ≡ plus (record_at kind y (run a c d))
    go a b c off p q = times_parts y (a - a) (b - b) (a - a) (omega arith)
    go a b c fwd p q = times_parts y (b - a) (c - b) (c - a) (omega arith)
    go a b c bwd p q = times_parts y (a - b) (b - c) (a - c) (omega arith)

pub minus_additive : (kind y : ℕ) → Additive (λ r. minus (record_at kind y r))
minus_additive kind y = record { none = λ a b. times_none y (a - a) (omega arith); both = go }
  where
    go : (a b c : ℕ) (d : Dir) → a ≤ b → b ≤ c → minus (record_at kind y (run a b d)) + minus (record_at kind y (run b c d)) ≡ minus (record_at kind y (run a c d))
    go a b c off p q = times_parts y (a - a) (b - b) (a - a) (omega arith)
    go a b c fwd p q = times_parts y (a - b) (b - c) (a - c) (omega arith)
    go a b c bwd p q = times_parts y (b - a) (c - b) (c - a) (omega arith)

plus_piece : (kind y k : ℕ) (d : Dir) → plus (record_at kind y (run k (suc k) d)) ≡ y * east d
plus_piece kind y k off = ap (◌*◌ y) (omega arith)
plus_piece kind y k fwd = ap (◌*◌ y) (omega arith)
plus_piece kind y k bwd = ap (◌*◌ y) (omega arith)

minus_piece : (kind y k : ℕ) (d : Dir) → minus (record_at kind y (run k (suc k) d)) ≡ y * west d
minus_piece kind y k off = ap (◌*◌ y) (omega arith)
minus_piece kind y k fwd = ap (◌*◌ y) (omega arith)
minus_piece kind y k bwd = ap (◌*◌ y) (omega arith)

-- a sum over the horizontals, column by column
columns : (ψ : Record ℕ → ℕ) (m : Dir → ℕ) → ((y : ℕ) → Additive (λ r. ψ (record_at 0 y r))) → ((y k : ℕ) (d : Dir) → ψ (record_at 0 y (run k (suc k) d)) ≡ y * m d)
    → (N : ℕ) (g : ℕ → ℕ → Bool) → sum_of ψ (kind_n 0 (level_n g) N) ≡ total (λ i. total (λ y. y * m (step_n (g i) y)) 0 (suc N)) 0 N
unfolding level_n
columns ψ m A piece N g =
    sum_kind ψ 0 (level_n g) N A
    ∙ ap (λ (h : ℕ → ℕ → ℕ). total (λ y. total (h y) 0 N) 0 (suc N)) (fun_ext (λ y. fun_ext (λ k. piece y k (level_n g y k))))
    ∙ total_swap (λ y i. y * m (step_n (g i) y)) 0 (suc N) 0 N

pub area : (N : ℕ) (g : ℕ → ℕ → Bool) → ((i : ℕ) → g i N ≡ false) → sum_of plus (kind_n 0 (level_n g) N) ≡ sum_of minus (kind_n 0 (level_n g) N) + cells_n N g
unfolding cells_n
area N g top =
    columns plus east (plus_additive 0) (plus_piece 0) N g
    ∙ ap (λ (h : ℕ → ℕ). total h 0 N) (fun_ext col)
    ∙ total_add (λ i. total (λ y. y * west (step_n (g i) y)) 0 (suc N)) (λ i. total (λ j. bit (g i j)) 0 N) 0 N
    ∙ ap (λ (n : ℕ). n + total (λ i. total (λ j. bit (g i j)) 0 N) 0 N) (sym (columns minus west (minus_additive 0) (minus_piece 0) N g))
  where
    col : (i : ℕ) → total (λ y. y * east (step_n (g i) y)) 0 (suc N) ≡ total (λ y. y * west (step_n (g i) y)) 0 (suc N) + total (λ j. bit (g i j)) 0 N
    col i = omega (arith, weigh (g i) 0 N (ap (g i) (zero-add N) ∙ top i))
