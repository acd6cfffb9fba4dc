-- As many records of kind 0 as of kind 1: at each point of the plane as many ends of horizontal records lie as of vertical ones. Assumes nothing.
--
--   stop d e, start d e    a run of direction d ends (one of direction e starts) between neighbouring pieces of directions d and e
--   stops                  a line has as many runs as there are places where one ends
--   patterns               THE TABLE OF PATTERNS: the sixteen ways in which the four cells round a point can be inside
--   as_many                as many horizontal as vertical records
use Rattle.std.specs.Prelude.{◌≡◌, refl, Bool, true, false, ◌&&◌, List, [], ◌∷◌, ◌++◌, map, ℕ, zero, suc, ◌+◌, ◌*◌, ◌<◌, eqb, length}
use Rattle.std.proofs.Common.{sym, ap, ap₂, ◌∙◌, true≢false, arith, zero-add, add-zero, add-suc, suc-add, length-append}
use Rattle.std.proofs.Math.Path.{fun_ext}
use Rattle.std.proofs.lemmas.List.{length-map}
use Rattle.meaning.specs.Cells.{Dir, off, fwd, bwd, turn}
use Rattle.meaning.specs.Records.{Run, run, same_dir, join_if, join, put, line, each}
use Rattle.meaning.specs.Area.{total}
use Rattle.grid_laws.specs.Plane.{prior, level_n, upright_n, record_at, kind_n}
use Rattle.grid_laws.specs.LineLaws.{same_refl, put_put}
use Rattle.grid_laws.specs.OneLine.{Good, line_good, same_true}
use Rattle.grid_laws.specs.Scan.{emit, put_other}
use Rattle.grid_laws.specs.Sums.{total_same, total_add, total_swap}
use Rattle.grid_laws.specs.Beside.{Bounded}

abbrev pub stop : Dir → Dir → ℕ
stop off e = 0
stop fwd off = 1
stop fwd fwd = 0
stop fwd bwd = 1
stop bwd off = 1
stop bwd fwd = 1
stop bwd bwd = 0

abbrev pub start : Dir → Dir → ℕ
start d e = stop e d

abbrev some : Dir → ℕ
some off = 0
some fwd = 1
some bwd = 1

-- ---- a line has as many runs as ends

join_start : (s a b : ℕ) (d : Dir) (rs : List Run) → length (join s b d rs) ≡ length (join a b d rs)
join_start s a b d [] = refl
join_start s a b d (run l h e ∷ rs) = go (eqb l b && same_dir e d)
  where
    go : (t : Bool) → length (join_if t s b d l h e rs) ≡ length (join_if t a b d l h e rs)
    go true = refl
    go false = refl

put_start : (s a b : ℕ) (d : Dir) (rs : List Run) → length (put s b d rs) ≡ length (put a b d rs)
put_start s a b off rs = refl
put_start s a b fwd rs = join_start s a b fwd rs
put_start s a b bwd rs = join_start s a b bwd rs

emits : (s a : ℕ) (d : Dir) (rs : List Run) → length (emit s a d ++ rs) ≡ some d + length rs
emits s a off rs = sym (zero-add (length rs))
emits s a fwd rs = omega arith
emits s a bwd rs = omega arith

put_stop : (s a b : ℕ) (d e : Dir) (rs : List Run) → a < b → Good b off rs → length (put s a d (put a b e rs)) ≡ stop d e + length (put a b e rs)
put_stop s a b d e rs l g = go (same_dir e d) refl
  where
    even : (d : Dir) → stop d d ≡ 0
    even off = refl
    even fwd = refl
    even bwd = refl

    odd : (d e : Dir) → same_dir e d ≡ false → stop d e ≡ some d
    odd off e h = refl
    odd fwd off h = refl
    odd fwd fwd h = absurd (true≢false h)
    odd fwd bwd h = refl
    odd bwd off h = refl
    odd bwd fwd h = refl
    odd bwd bwd h = absurd (true≢false h)

    go : (t : Bool) → same_dir e d ≡ t → length (put s a d (put a b e rs)) ≡ stop d e + length (put a b e rs)
    go true h = rw (same_true e d h, even d) (ap length (put_put s a b d rs) ∙ put_start s a b d rs ∙ sym (zero-add (length (put a b d rs))))
    go false h =
        ap length (put_other s a b d e rs l g (λ q. true≢false (sym (same_refl d) ∙ ap (λ (c : Dir). same_dir c d) (sym q) ∙ h)))
        ∙ emits s a d (put a b e rs) ∙ ap (λ (k : ℕ). k + length (put a b e rs)) (sym (odd d e h))

pub stops : (f : ℕ → Dir) (a n : ℕ) → f (a + n) ≡ off → length (line f a n) ≡ total (λ k. stop (f k) (f (suc k))) a n
unfolding line total
stops f a zero h = refl
stops f a (suc zero) h = last (f a) (f (suc a)) (ap f (omega arith) ∙ h)
  where
    last : (d e : Dir) → e ≡ off → length (put a (suc a) d []) ≡ stop d e + 0
    last off e q = refl
    last fwd e q = rw q
    last bwd e q = rw q
stops f a (suc (suc n)) h =
    put_stop a (suc a) (suc (suc a)) (f a) (f (suc a)) (line f (suc (suc a)) n) (omega arith) (line_good f (suc (suc a)) n)
    ∙ ap (◌+◌ (stop (f a) (f (suc a)))) (stops f (suc a) (suc n) (ap f (omega arith) ∙ h))

-- what ends and what starts
balance : (d e : Dir) → stop d e + some e ≡ start d e + some d
balance off off = refl
balance off fwd = refl
balance off bwd = refl
balance fwd off = refl
balance fwd fwd = refl
balance fwd bwd = refl
balance bwd off = refl
balance bwd fwd = refl
balance bwd bwd = refl

starts : (f : ℕ → Dir) (a n : ℕ) → total (λ k. stop (f k) (f (suc k))) a n + some (f (a + n)) ≡ total (λ k. start (f k) (f (suc k))) a n + some (f a)
unfolding total
starts f a zero = rw (add-zero a)
starts f a (suc n) = rw (add-suc, ← suc-add) (omega (arith, balance (f a) (f (suc a)), starts f (suc a) n))

-- ---- ends at the points of a line

-- the piece before; there is none before place 0
abbrev prev : (ℕ → Dir) → ℕ → Dir
prev f zero = off
prev f (suc k) = f k

abbrev ends : Dir → Dir → ℕ
ends d e = stop d e + start d e

shift : (φ : ℕ → ℕ) (a n : ℕ) → total φ (suc a) n ≡ total (λ k. φ (suc k)) a n
unfolding total
shift φ a zero = refl
shift φ a (suc n) = ap (◌+◌ (φ (suc a))) (shift φ (suc a) n)

line_ends : (f : ℕ → Dir) (n : ℕ) → f n ≡ off → total (λ x. ends (prev f x) (f x)) 0 (suc n) ≡ 2 * length (line f 0 n)
unfolding total
line_ends f n h =
    let z : f (0 + n) ≡ off = ap f (zero-add n) ∙ h in
    let s : total (λ x. ends (prev f x) (f x)) 1 n ≡ total (λ k. stop (f k) (f (suc k))) 0 n + total (λ k. start (f k) (f (suc k))) 0 n =
    shift (λ x. ends (prev f x) (f x)) 0 n ∙ total_add (λ k. stop (f k) (f (suc k))) (λ k. start (f k) (f (suc k))) 0 n in
    omega (arith, s, stops f 0 n z, starts f 0 n, ap some z, first (f 0))
  where
    first : (d : Dir) → start off d ≡ some d
    first off = refl
    first fwd = refl
    first bwd = refl

-- ---- the points of the plane

-- a and b above the point, c and d below it; a and c on its left
pub patterns : (a b c d : Bool) → ends (turn c a) (turn d b) ≡ ends (turn d c) (turn b a)
patterns true true true true = refl
patterns true true true false = refl
patterns true true false true = refl
patterns true true false false = refl
patterns true false true true = refl
patterns true false true false = refl
patterns true false false true = refl
patterns true false false false = refl
patterns false true true true = refl
patterns false true true false = refl
patterns false true false true = refl
patterns false true false false = refl
patterns false false true true = refl
patterns false false true false = refl
patterns false false false true = refl
patterns false false false false = refl

point : (g : ℕ → ℕ → Bool) (x y : ℕ) → ends (prev (level_n g y) x) (level_n g y x) ≡ ends (prev (upright_n g x) y) (upright_n g x y)
unfolding level_n upright_n
point g zero zero = patterns false (g 0 0) false false
point g zero (suc y) = patterns false (g 0 (suc y)) false (g 0 y)
point g (suc x) zero = patterns (g x 0) (g (suc x) 0) false false
point g (suc x) (suc y) = patterns (g x (suc y)) (g (suc x) (suc y)) (g x y) (g (suc x) y)

length_each : (kind : ℕ) (F : ℕ → ℕ → Dir) (N a n : ℕ) → length (each (λ p. map (record_at kind p) (line (F p) 0 N)) a n) ≡ total (λ p. length (line (F p) 0 N)) a n
unfolding each total
length_each kind F N a zero = refl
length_each kind F N a (suc n) =
    length-append (map (record_at kind a) (line (F a) 0 N)) (each (λ p. map (record_at kind p) (line (F p) 0 N)) (suc a) n)
    ∙ ap₂ ◌+◌ (length-map (line (F a) 0 N) (record_at kind a)) (length_each kind F N (suc a) n)

twice : (f : ℕ → ℕ) (a n : ℕ) → total (λ p. 2 * f p) a n ≡ 2 * total f a n
unfolding total
twice f a zero = refl
twice f a (suc n) = omega (arith, twice f (suc a) n)

kind_ends : (kind : ℕ) (F : ℕ → ℕ → Dir) (N : ℕ) → ((p : ℕ) → F p N ≡ off) → total (λ p. total (λ k. ends (prev (F p) k) (F p k)) 0 (suc N)) 0 (suc N) ≡ 2 * length (kind_n kind F N)
unfolding kind_n
kind_ends kind F N h =
    total_same _ _ 0 (suc N) (λ p u v. line_ends (F p) N (h p))
    ∙ twice (λ p. length (line (F p) 0 N)) 0 (suc N)
    ∙ ap (λ (n : ℕ). 2 * n) (sym (length_each kind F N 0 (suc N)))

pub as_many : (N : ℕ) (g : ℕ → ℕ → Bool) → Bounded N g → length (kind_n 0 (level_n g) N) ≡ length (kind_n 1 (upright_n g) N)
unfolding level_n upright_n
as_many N g b =
    let h = kind_ends 0 (level_n g) N (λ y. ap₂ turn (side y) (b.right N y (omega arith))) in
    let v = kind_ends 1 (upright_n g) N (λ x. ap₂ turn (b.top x N (omega arith)) (top x)) in
    let s = total_swap (λ y x. ends (prev (level_n g y) x) (level_n g y x)) 0 (suc N) 0 (suc N) in
    let e : total (λ x. total (λ y. ends (prev (level_n g y) x) (level_n g y x)) 0 (suc N)) 0 (suc N) ≡ total (λ x. total (λ y. ends (prev (upright_n g x) y) (upright_n g x y)) 0 (suc N)) 0 (suc N) =
    ap (λ (φ : ℕ → ℕ → ℕ). total (λ x. total (φ x) 0 (suc N)) 0 (suc N)) (fun_ext (λ x. fun_ext (λ y. point g x y))) in
    omega (arith, sym h ∙ s ∙ e ∙ v)
  where
    side : (y : ℕ) → prior (g N) y ≡ false
    side zero = refl
    side (suc y) = b.right N y (omega arith)

    top : (x : ℕ) → prior (λ i. g i N) x ≡ false
    top zero = refl
    top (suc x) = b.top x N (omega arith)
