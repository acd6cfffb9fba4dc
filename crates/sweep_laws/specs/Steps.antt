-- Places, lines and words of one height, apart from what is read from a strip's cover: that is in proofs/Steps.antt. Assumes nothing.
--
--   CutAt base ws j m     just the first m words have y at most j
--   line_same             a line is that of any directions that agree at its break points
--   up_all                what holds of every number below n holds of all of them
--   places_more           the words of one height are one place
--   lines_none            no word, no line
--   place_start           a place starts at the first word
--   lines_few   a line has at most as many records as there are ranks, and there is at most a line for each word
use Rattle.std.specs.Prelude.{◌≡◌, refl, Bool, true, false, ◌&&◌, eqb, length, take}
use Rattle.std.proofs.Math.Path.{sym, ap, ap₂}
use Rattle.std.proofs.Common.{mul-le-mul, le_trans, le_refl, length-append, length-take-le}
use mathlib.Core.List.{List, [], ◌∷◌, ◌++◌, map}
use Prim.Native.Nat.{ℕ, zero, suc, ◌+◌, ◌*◌, ◌<◌, ◌≤◌}
use native.Mathlib.Omega.{arith}
use Rattle.std.proofs.Math.ListN.{get_or}
use Rattle.std.proofs.lemmas.List.{length-map}
use borrow.Author.Tests.{eq-eqb, ne_eqb}
use Rattle.meaning.specs.Numbers.{pick}
use Rattle.meaning.specs.Cells.{Dir, off, fwd, bwd}
use Rattle.meaning.specs.Records.{Run, run, same_dir, join_if, join, put}
use Rattle.basic_laws.specs.Lists.{All}
use Rattle.words.specs.Words.{value_of}
use Rattle.grid_laws.specs.Plane.{inside_n, level_n, record_at, line_at, line_over, each_of, kind_at}
use Rattle.strips.specs.Cover.{holds_of}
use Rattle.horizontal.specs.Words.{up_from}
use Rattle.sweep_laws.specs.Lines.{edges_by, places_after, places, PlaceAt, lines_to}

-- ---- the cells of a strip

pub record CutAt (base : ℕ) (ws : List ℕ) (j m : ℕ) : Type 0 where
  pub fits : m ≤ length ws
  pub low : (p : ℕ) → p < m → value_of base (get_or ws p 0) ≤ j
  pub high : (p : ℕ) → m ≤ p → p < length ws → j < value_of base (get_or ws p 0)

-- ---- lines

line_same_at : (f g : ℕ → Dir) (a : ℕ) (bs : List ℕ) → f a ≡ g a → All (λ b. f b ≡ g b) bs → line_at f a bs ≡ line_at g a bs
unfolding line_at
line_same_at f g a [] e h = refl
line_same_at f g a (b ∷ bs) e h = ap₂ (λ (d : Dir) (rs : List Run). put a b d rs) e (line_same_at f g b bs h.0 h.1)

pub line_same : (f g : ℕ → Dir) (bs : List ℕ) → All (λ b. f b ≡ g b) bs → line_over f bs ≡ line_over g bs
unfolding line_over
line_same f g [] h = refl
line_same f g (b ∷ bs) h = line_same_at f g b bs h.0 h.1

pub up_all : (P : ℕ → Type 0) (a n : ℕ) → ((r : ℕ) → r < a + n → P r) → All P (up_from a n)
unfolding up_from
up_all P a zero h = tt
up_all P a (suc n) h = (h a (omega arith), up_all P (suc a) n (λ r u. h r (omega arith)))

-- ---- places

one_place : (v : ℕ) (zs : List ℕ) → All (λ z. z ≡ v) zs → places_after v zs ≡ []
unfolding places_after
one_place v [] h = refl
one_place v (z ∷ zs) h = rw (eq-eqb v z (sym h.0)) (one_place v zs h.1)

after_more : (y v : ℕ) (ys zs : List ℕ) → y < v → All (λ z. z < v) ys → places_after y (ys ++ v ∷ zs) ≡ places_after y ys ++ (v ∷ places_after v zs)
unfolding places_after
after_more y v [] zs u h = rw (ne_eqb y v (λ e. omega arith))
after_more y v (z ∷ ys) zs u h = go (eqb y z) (after_more y v ys zs u h.1) (after_more z v ys zs h.0 h.1)
  where
    go : (b : Bool) → places_after y (ys ++ v ∷ zs) ≡ places_after y ys ++ (v ∷ places_after v zs) → places_after z (ys ++ v ∷ zs) ≡ places_after z ys ++ (v ∷ places_after v zs)
        → pick b (places_after y (ys ++ v ∷ zs)) (z ∷ places_after z (ys ++ v ∷ zs)) ≡ pick b (places_after y ys) (z ∷ places_after z ys) ++ (v ∷ places_after v zs)
    go true p q = p
    go false p q = ap (λ (ps : List ℕ). z ∷ ps) q

pub places_more : (v : ℕ) (ys zs : List ℕ) → All (λ z. z < v) ys → All (λ z. z ≡ v) zs → places (ys ++ v ∷ zs) ≡ places ys ++ (v ∷ [])
unfolding places
places_more v [] zs h same = rw (one_place v zs same)
places_more v (y ∷ ys) zs h same = rw (after_more y v ys zs h.0 h.1, one_place v zs same)

-- ---- before the first word

pub lines_none : (base : ℕ) (ws layers ends : List ℕ) (truth : List Bool) (nx : ℕ) → lines_to base ws layers ends truth nx 0 ≡ []
unfolding lines_to kind_at each_of places
lines_none base ws layers ends truth nx = refl

pub place_start : (ws : List ℕ) → PlaceAt ws 0
place_start ws = record { fits = omega arith; above = λ p h l. let z : ⊥ = omega arith in absurd z }

-- ---- how many records

join_few : (a b : ℕ) (d : Dir) (rs : List Run) → length (join a b d rs) ≤ suc (length rs)
join_few a b d [] = omega arith
join_few a b d (run l h e ∷ rs) = go (eqb l b && same_dir e d)
  where
    go : (t : Bool) → length (join_if t a b d l h e rs) ≤ suc (suc (length rs))
    go true = omega arith
    go false = omega arith

put_few : (a b : ℕ) (d : Dir) (rs : List Run) → length (put a b d rs) ≤ suc (length rs)
put_few a b off rs = omega arith
put_few a b fwd rs = join_few a b fwd rs
put_few a b bwd rs = join_few a b bwd rs

line_few : (f : ℕ → Dir) (a : ℕ) (bs : List ℕ) → length (line_at f a bs) ≤ length bs
unfolding line_at
line_few f a [] = omega arith
line_few f a (b ∷ bs) = omega (arith, put_few a b (f a) (line_at f b bs), line_few f b bs)

up_long : (a n : ℕ) → length (up_from a n) ≡ n
unfolding up_from
up_long a zero = refl
up_long a (suc n) = ap suc (up_long (suc a) n)

over_few : (f : ℕ → Dir) (bs : List ℕ) → length (line_over f bs) ≤ length bs
unfolding line_over
over_few f [] = omega arith
over_few f (b ∷ bs) = omega (arith, line_few f b bs)

one_line : (f : ℕ → Dir) (y nx : ℕ) → length (map (record_at 0 y) (line_over f (up_from 0 nx))) ≤ nx
one_line f y nx = omega (arith, length-map (line_over f (up_from 0 nx)) (record_at 0 y), over_few f (up_from 0 nx), up_long 0 nx)

each_few : {A : Type 0} (h : ℕ → List A) (k : ℕ) (ps : List ℕ) → ((p : ℕ) → length (h p) ≤ k) → length (each_of h ps) ≤ length ps * k
unfolding each_of
each_few h k [] few = omega arith
each_few h k (p ∷ ps) few = omega (arith, length-append (h p) (each_of h ps), few p, each_few h k ps few)

after_few : (y : ℕ) (ys : List ℕ) → length (places_after y ys) ≤ length ys
unfolding places_after
after_few y [] = omega arith
after_few y (z ∷ ys) = go (eqb y z) (after_few y ys) (after_few z ys)
  where
    go : (b : Bool) → length (places_after y ys) ≤ length ys → length (places_after z ys) ≤ length ys → length (pick b (places_after y ys) (z ∷ places_after z ys)) ≤ suc (length ys)
    go true p q = omega arith
    go false p q = omega arith

places_few : (ys : List ℕ) → length (places ys) ≤ length ys
unfolding places
places_few [] = omega arith
places_few (y ∷ ys) = omega (arith, after_few y ys)

pub lines_few : (base : ℕ) (ws layers ends : List ℕ) (truth : List Bool) (nx e : ℕ) → e ≤ length ws → length (lines_to base ws layers ends truth nx e) ≤ e * nx
unfolding lines_to kind_at
lines_few base ws layers ends truth nx e h =
    let few : length (places (map (value_of base) (take e ws))) ≤ e = omega (arith, places_few (map (value_of base) (take e ws)), length-map (take e ws) (value_of base), length-take-le e ws h) in
    le_trans (each_few _ nx (places (map (value_of base) (take e ws))) (λ p. one_line (level_n (inside_n (holds_of truth) (edges_by base ws layers ends)) p) p nx)) (mul-le-mul few (le_refl nx))
