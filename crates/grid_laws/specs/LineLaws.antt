-- Laws of lines.
use Rattle.std.specs.Prelude.{◌≡◌, refl, Bool, true, false, ◌&&◌, List, [], ◌∷◌, ℕ, zero, suc, ◌+◌, ◌-◌, ◌≤◌, ◌<◌, eqb}
use Rattle.std.proofs.Common.{ap, ◌∙◌, arith, add-one, suc-add, zero-add, add-zero, add-suc, eq-eqb}
use Rattle.std.proofs.Math.Decide.{dec_lt}
use Rattle.meaning.specs.Cells.{Dir, off, fwd, bwd}
use Rattle.meaning.specs.Records.{Run, run, same_dir, join_if, join, put, line}
use Rattle.grid_laws.specs.Plane.{line_at}

pub same_refl : (d : Dir) → same_dir d d ≡ true
same_refl off = refl
same_refl fwd = refl
same_refl bwd = refl

-- a stretch before a stretch of the same direction is one stretch
touch : (a b c : ℕ) (d : Dir) (rs : List Run) → join a b d (run b c d ∷ rs) ≡ run a c d ∷ rs
touch a b c d rs = rw (eq-eqb b b refl, same_refl d)

join_if_join : (t : Bool) (a b c : ℕ) (d : Dir) (l h : ℕ) (e : Dir) (rs : List Run) → join a b d (join_if t b c d l h e rs) ≡ join_if t a c d l h e rs
join_if_join true a b c d l h e rs = touch a b h d rs
join_if_join false a b c d l h e rs = touch a b c d (run l h e ∷ rs)

join_join : (a b c : ℕ) (d : Dir) (rs : List Run) → join a b d (join b c d rs) ≡ join a c d rs
join_join a b c d [] = touch a b c d []
join_join a b c d (run l h e ∷ rs) = join_if_join (eqb l c && same_dir e d) a b c d l h e rs

pub put_put : (a b c : ℕ) (d : Dir) (rs : List Run) → put a b d (put b c d rs) ≡ put a c d rs
put_put a b c off rs = refl
put_put a b c fwd rs = join_join a b c fwd rs
put_put a b c bwd rs = join_join a b c bwd rs

-- n pieces from a on, in front of rs
unfoldable pub onto : (ℕ → Dir) → ℕ → ℕ → List Run → List Run
onto f a zero rs = rs
onto f a (suc n) rs = put a (suc a) (f a) (onto f (suc a) n rs)

pub line_split : (f : ℕ → Dir) (a n m : ℕ) → line f a (n + m) ≡ onto f a n (line f (a + n) m)
unfolding line onto
line_split f a zero m = rw (zero-add, add-zero)
line_split f a (suc n) m = rw (suc-add, add-suc, ← suc-add) (ap (put a (suc a) (f a)) (line_split f (suc a) n m))

pub onto_const : (f : ℕ → Dir) (d : Dir) (a n : ℕ) (rs : List Run) → ((k : ℕ) → a ≤ k → k < a + suc n → f k ≡ d) → onto f a (suc n) rs ≡ put a (a + suc n) d rs
unfolding onto
onto_const f d a zero rs h = rw (h a (omega arith) (omega arith), add-one)
onto_const f d a (suc n) rs h =
    ap (put a (suc a) (f a)) (onto_const f d (suc a) n rs (λ k p q. h k (omega arith) (omega arith)))
    ∙ rw (h a (omega arith) (omega arith), put_put, shift a n)
  where
    shift : (a n : ℕ) → suc a + suc n ≡ a + suc (suc n)
    shift a n = omega arith

-- a stretch of one direction, and then the rest
pub line_const : (f : ℕ → Dir) (d : Dir) (a b n m : ℕ) → a < b → b + m ≡ a + n → ((k : ℕ) → a ≤ k → k < b → f k ≡ d) → line f a n ≡ put a b d (line f b m)
line_const f d a b n m l e h = go (b - suc a) (omega arith)
  where
    go : (q : ℕ) → b ≡ a + suc q → line f a n ≡ put a b d (line f b m)
    go q p =
        let w : n ≡ suc q + m = omega arith in
        rw (w, p) (line_split f a (suc q) m ∙ onto_const f d a q (line f (a + suc q) m) (λ k u v. h k u (omega arith)))

-- an empty stretch may be left out, in front and behind
pub line_skip : (f : ℕ → Dir) (a b n m : ℕ) → a ≤ b → b + m ≡ a + n → ((k : ℕ) → a ≤ k → k < b → f k ≡ off) → line f a n ≡ line f b m
line_skip f a b n m l e h = go (dec_lt a b)
  where
    go : Dec (a < b) → line f a n ≡ line f b m
    go (yes lt) = line_const f off a b n m lt e h
    go (no ge) =
        let p : a ≡ b = omega arith in
        let q : n ≡ m = omega arith in
        rw (p, q)

pub line_off : (f : ℕ → Dir) (a n : ℕ) → ((k : ℕ) → a ≤ k → f k ≡ off) → line f a n ≡ []
unfolding line
line_off f a zero h = refl
line_off f a (suc n) h = rw (h a (omega arith)) (line_off f (suc a) n (λ k p. h k (omega arith)))

-- the last of the breakpoints
abbrev pub end : ℕ → List ℕ → ℕ
end a [] = a
end a (b ∷ bs) = end b bs

-- the breakpoints rise, and f does not change between two of them
abbrev pub Steps : (ℕ → Dir) → ℕ → List ℕ → Type 0
Steps f a [] = Unit {0}
Steps f a (b ∷ bs) = (a < b) × ((k : ℕ) → a ≤ k → k < b → f k ≡ f a) × Steps f b bs

pub end_le : (f : ℕ → Dir) (a : ℕ) (bs : List ℕ) → Steps f a bs → a ≤ end a bs
end_le f a [] s = omega arith
end_le f a (b ∷ bs) s = omega (arith, end_le f b bs s.2)

-- COMPRESSION: with f off before the first breakpoint and from the last one on, the line is what the breakpoints show
pub line_at_is : (f : ℕ → Dir) (a : ℕ) (bs : List ℕ) (n : ℕ) → Steps f a bs → ((k : ℕ) → end a bs ≤ k → f k ≡ off) → end a bs ≤ a + n → line f a n ≡ line_at f a bs
unfolding line_at
line_at_is f a [] n s h e = line_off f a n h
line_at_is f a (b ∷ bs) n s h e =
    let l : b ≤ end b bs = end_le f b bs s.2 in
    line_const f (f a) a b n (a + n - b) s.0 (omega arith) s.1
    ∙ ap (put a b (f a)) (line_at_is f b bs (a + n - b) s.2 h (omega arith))

pub line_whole : (f : ℕ → Dir) (a : ℕ) (bs : List ℕ) (n : ℕ)
    → ((k : ℕ) → k < a → f k ≡ off) → Steps f a bs → ((k : ℕ) → end a bs ≤ k → f k ≡ off) → end a bs ≤ n → line f zero n ≡ line_at f a bs
line_whole f a bs n g s h e =
    let l : a ≤ end a bs = end_le f a bs s in
    line_skip f zero a n (n - a) (omega arith) (omega arith) (λ k p q. g k q)
    ∙ line_at_is f a bs (n - a) s h (omega arith)
