-- A scan from left to right makes the line: what a loop over the breakpoints keeps, and what it hands out.
use Rattle.std.specs.Prelude.{◌≡◌, refl, ◌≢◌, Bool, true, false, ◌&&◌, List, [], ◌∷◌, ◌++◌, ℕ, zero, suc, ◌≤◌, ◌<◌, eqb, length, get_or, drop}
use Rattle.std.proofs.Common.{arith, drop_of_length-le, drop-cons, ne_eqb}
use Rattle.meaning.specs.Cells.{Dir, off, fwd, bwd}
use Rattle.meaning.specs.Records.{Run, run, same_dir, join_if, join, put}
use Rattle.basic_laws.specs.Tests.{and_off}
use Rattle.grid_laws.specs.Plane.{line_at, line_over}
use Rattle.grid_laws.specs.LineLaws.{put_put}
use Rattle.grid_laws.specs.OneLine.{Good, same_true, good_put}
use Rattle.grid_laws.specs.Places.{Rising}

pub at_good : (f : ℕ → Dir) (a : ℕ) (bs : List ℕ) → Rising (suc a) bs → Good a off (line_at f a bs)
unfolding line_at
at_good f a [] r = tt
at_good f a (b ∷ bs) r = good_put a b (f a) (line_at f b bs) r.0 (at_good f b bs r.1)

-- The open run from s to a has direction d. The next stretch goes on in it: nothing is handed out, the run stays open.
pub scan_keep : (f : ℕ → Dir) (s a b : ℕ) (bs : List ℕ) → put s a (f a) (line_at f a (b ∷ bs)) ≡ put s b (f a) (line_at f b bs)
unfolding line_at
scan_keep f s a b bs = put_put s a b (f a) (line_at f b bs)

-- a run that is no direction is no run
abbrev pub emit : ℕ → ℕ → Dir → List Run
emit s a off = []
emit s a fwd = run s a fwd ∷ []
emit s a bwd = run s a bwd ∷ []

differ : (d e : Dir) → e ≢ d → same_dir e d ≡ false
differ d e n = go (same_dir e d) refl
  where
    go : (t : Bool) → same_dir e d ≡ t → same_dir e d ≡ false
    go true q = absurd (n (same_true e d q))
    go false q = q

-- in front of runs that start past a, a run that ends at a stands by itself; so it does in front of another direction
join_far : (s a d' : ℕ) (d : Dir) (rs : List Run) → a < d' → Good d' off rs → join s a d rs ≡ run s a d ∷ rs
join_far s a b d [] l g = refl
join_far s a b d (run lo hi e ∷ rs) l g = rw (ne_eqb lo a (omega arith))

join_other : (s a b : ℕ) (d e : Dir) (rs : List Run) → e ≢ d → join s a d (join a b e rs) ≡ run s a d ∷ join a b e rs
join_other s a b d e [] n = rw (differ d e n, and_off (eqb a a))
join_other s a b d e (run lo hi c ∷ rs) n = go (eqb lo b && same_dir c e)
  where
    go : (t : Bool) → join s a d (join_if t a b e lo hi c rs) ≡ run s a d ∷ join_if t a b e lo hi c rs
    go true = rw (differ d e n, and_off (eqb a a))
    go false = rw (differ d e n, and_off (eqb a a))

pub put_other : (s a b : ℕ) (d e : Dir) (rs : List Run) → a < b → Good b off rs → e ≢ d → put s a d (put a b e rs) ≡ emit s a d ++ put a b e rs
put_other s a b off e rs l g n = refl
put_other s a b fwd off rs l g n = join_far s a b fwd rs l g
put_other s a b fwd fwd rs l g n = join_other s a b fwd fwd rs n
put_other s a b fwd bwd rs l g n = join_other s a b fwd bwd rs n
put_other s a b bwd off rs l g n = join_far s a b bwd rs l g
put_other s a b bwd fwd rs l g n = join_other s a b bwd fwd rs n
put_other s a b bwd bwd rs l g n = join_other s a b bwd bwd rs n

-- The next stretch has another direction: the open run is handed out, and the stretch is open.
pub scan_emit : (f : ℕ → Dir) (s a : ℕ) (d : Dir) (b : ℕ) (bs : List ℕ) → Rising (suc a) (b ∷ bs) → f a ≢ d
    → put s a d (line_at f a (b ∷ bs)) ≡ emit s a d ++ put a b (f a) (line_at f b bs)
unfolding line_at
scan_emit f s a d b bs r n = put_other s a b d (f a) (line_at f b bs) r.0 (at_good f b bs r.1) n

-- At the last breakpoint the open run is handed out.
pub scan_end : (f : ℕ → Dir) (s a : ℕ) (d : Dir) → put s a d (line_at f a []) ≡ emit s a d
unfolding line_at
scan_end f s a off = refl
scan_end f s a fwd = refl
scan_end f s a bwd = refl

-- ---- by index, as a loop has it: the open run goes from s to breakpoint k, in direction d

unfoldable pub pending : (ℕ → Dir) → ℕ → Dir → ℕ → List ℕ → List Run
pending f s d k xs = put s (get_or xs k 0) d (line_at f (get_or xs k 0) (drop (suc k) xs))

pub pend_start : (f : ℕ → Dir) (s : ℕ) (xs : List ℕ) → line_over f xs ≡ pending f s off 0 xs
unfolding pending line_over line_at
pend_start f s [] = refl
pend_start f s (a ∷ bs) = refl

rising_drop : (z : ℕ) (xs : List ℕ) (k : ℕ) → Rising z xs → k < length xs → Rising (suc (get_or xs k 0)) (drop (suc k) xs)
rising_drop z [] k r l = absurd (omega arith)
rising_drop z (x ∷ xs) zero r l = r.1
rising_drop z (x ∷ xs) (suc k) r l = rising_drop (suc x) xs k r.1 (omega arith)

pub pend_keep : (f : ℕ → Dir) (s : ℕ) (d : Dir) (k : ℕ) (xs : List ℕ) → suc k < length xs → f (get_or xs k 0) ≡ d → pending f s d k xs ≡ pending f s d (suc k) xs
unfolding pending
pend_keep f s d k xs l e = rw (drop-cons xs (suc k) 0 l, ← e) (scan_keep f s (get_or xs k 0) (get_or xs (suc k) 0) (drop (suc (suc k)) xs))

pub pend_emit : (f : ℕ → Dir) (s : ℕ) (d : Dir) (k : ℕ) (xs : List ℕ) → suc k < length xs → Rising zero xs → f (get_or xs k 0) ≢ d
    → pending f s d k xs ≡ emit s (get_or xs k 0) d ++ pending f (get_or xs k 0) (f (get_or xs k 0)) (suc k) xs
unfolding pending
pend_emit f s d k xs l r n =
    let q : Rising (suc (get_or xs k 0)) (get_or xs (suc k) 0 ∷ drop (suc (suc k)) xs) = rw (drop-cons xs (suc k) 0 l) at (rising_drop zero xs k r (omega arith)) in
    rw (drop-cons xs (suc k) 0 l) (scan_emit f s (get_or xs k 0) d (get_or xs (suc k) 0) (drop (suc (suc k)) xs) q n)

pub pend_end : (f : ℕ → Dir) (s : ℕ) (d : Dir) (k : ℕ) (xs : List ℕ) → length xs ≤ suc k → pending f s d k xs ≡ emit s (get_or xs k 0) d
unfolding pending
pend_end f s d k xs l = rw (drop_of_length-le xs {i = suc k} l) (scan_end f s (get_or xs k 0) d)
