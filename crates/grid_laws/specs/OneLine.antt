-- What a list of runs means; a line is a good list, and good lists that mean the same are equal. Assumes nothing.
use Rattle.std.specs.Prelude.{◌≡◌, refl, ◌≢◌, Bool, true, false, ◌&&◌, List, [], ◌∷◌, ℕ, zero, suc, ◌+◌, ◌≤◌, ◌<◌, eqb}
use Rattle.std.proofs.Common.{sym, ap, ◌∙◌, true≢false, arith, eq-eqb, eqb-true}
use Rattle.std.proofs.lemmas.Bool.{false≢true}
use Rattle.std.proofs.Math.Decide.{dec_lt, ℕ_discrete}
use Rattle.meaning.specs.Cells.{Dir, off, fwd, bwd}
use Rattle.meaning.specs.Records.{Run, run, same_dir, join_if, join, put, line}
use Rattle.meaning.specs.Numbers.{pick}
use Rattle.basic_laws.specs.Tests.{spans, and_left, and_right, spans_in, spans_below, spans_above}
use Rattle.basic_laws.specs.Lists.{All}
use Rattle.grid_laws.specs.LineLaws.{same_refl}

-- the direction of piece k
unfoldable pub dir_at : List Run → ℕ → Dir
dir_at [] k = off
dir_at (run l h d ∷ rs) k = pick (spans l h k) d (dir_at rs k)

-- Runs that are not empty, in order from a on, apart from each other; two that touch differ in direction.
-- d is the direction of a run that ends at a.
abbrev pub Good : ℕ → Dir → List Run → Type 0
Good a d [] = Unit {0}
Good a d (run l h e ∷ rs) = (a ≤ l) × (l < h) × (e ≢ off) × (l ≡ a → e ≢ d) × Good h e rs

-- ---- directions

pub same_true : (d e : Dir) → same_dir d e ≡ true → d ≡ e
same_true off off p = refl
same_true off fwd p = absurd (false≢true p)
same_true off bwd p = absurd (false≢true p)
same_true fwd off p = absurd (false≢true p)
same_true fwd fwd p = refl
same_true fwd bwd p = absurd (false≢true p)
same_true bwd off p = absurd (false≢true p)
same_true bwd fwd p = absurd (false≢true p)
same_true bwd bwd p = refl

pub fwd≢off : fwd ≢ off
fwd≢off e = let z : true ≡ false = ap (same_dir fwd) e in true≢false z

pub bwd≢off : bwd ≢ off
bwd≢off e = let z : true ≡ false = ap (same_dir bwd) e in true≢false z

-- ---- a line is good

pub weaken : (a b : ℕ) (rs : List Run) → a ≤ b → Good b off rs → Good a off rs
weaken a b [] p g = tt
weaken a b (run l h e ∷ rs) p g = (omega arith, g.1, g.2, λ _. g.2, g.4)

good_if : (t : Bool) (a b : ℕ) (d : Dir) (l h : ℕ) (e : Dir) (rs : List Run) → (eqb l b && same_dir e d) ≡ t → d ≢ off → a < b → Good b off (run l h e ∷ rs) → Good a off (join_if t a b d l h e rs)
good_if true a b d l h e rs q nd p g =
    let le : l ≡ b = eqb-true l b (and_left (eqb l b) (same_dir e d) q) in
    let de : e ≡ d = same_true e d (and_right (eqb l b) (same_dir e d) q) in
    (omega arith, omega arith, nd, λ _. nd, rw de at g.4)
good_if false a b d l h e rs q nd p g =
    (omega arith, p, nd, λ _. nd, (g.0, g.1, g.2, λ le de. false≢true (sym q ∙ rw (eq-eqb l b le, de, same_refl d)), g.4))

good_join : (a b : ℕ) (d : Dir) (rs : List Run) → d ≢ off → a < b → Good b off rs → Good a off (join a b d rs)
good_join a b d [] nd p g = (omega arith, p, nd, λ _. nd, tt)
good_join a b d (run l h e ∷ rs) nd p g = good_if (eqb l b && same_dir e d) a b d l h e rs refl nd p g

pub good_put : (a b : ℕ) (d : Dir) (rs : List Run) → a < b → Good b off rs → Good a off (put a b d rs)
good_put a b off rs p g = weaken a b rs (omega arith) g
good_put a b fwd rs p g = good_join a b fwd rs fwd≢off p g
good_put a b bwd rs p g = good_join a b bwd rs bwd≢off p g

pub line_good : (f : ℕ → Dir) (a n : ℕ) → Good a off (line f a n)
unfolding line
line_good f a zero = tt
line_good f a (suc n) = good_put a (suc a) (f a) (line f (suc a) n) (omega arith) (line_good f (suc a) n)

-- ---- what runs mean

pub at_below : (a : ℕ) (d : Dir) (rs : List Run) (k : ℕ) → Good a d rs → k < a → dir_at rs k ≡ off
unfolding dir_at
at_below a d [] k g p = refl
at_below a d (run l h e ∷ rs) k g p = rw (spans_below l h k (omega arith)) (at_below h e rs k g.4 (omega arith))

-- ---- only one good list means f

at_first : (l h : ℕ) (e : Dir) (rs : List Run) (k : ℕ) → l ≤ k → k < h → dir_at (run l h e ∷ rs) k ≡ e
unfolding dir_at
at_first l h e rs k p q = rw (spans_in l h k p q)

at_later : (l h : ℕ) (e : Dir) (rs : List Run) (k : ℕ) → h ≤ k → dir_at (run l h e ∷ rs) k ≡ dir_at rs k
unfolding dir_at
at_later l h e rs k p = rw (spans_above l h k p)

-- where a run ended its direction does not go on
at_start : (a : ℕ) (d : Dir) (rs : List Run) → d ≢ off → Good a d rs → dir_at rs a ≢ d
unfolding dir_at
at_start a d [] nd g p = nd (sym p)
at_start a d (run l h e ∷ rs) nd g p = go (ℕ_discrete l a)
  where
    go : Dec (l ≡ a) → ⊥
    go (yes q) = g.3 q (sym (at_first l h e rs a (omega arith) (omega arith)) ∙ p)
    go (no q) = nd (sym p ∙ at_below l off (run l h e ∷ rs) a (omega arith, g.1, g.2, λ _. g.2, g.4) (omega arith))

-- the first of two lists that mean the same cannot start earlier, nor end earlier
no_earlier : (a : ℕ) (d : Dir) (l h : ℕ) (e : Dir) (rs : List Run) (l' h' : ℕ) (e' : Dir) (ss : List Run)
    → Good a d (run l h e ∷ rs) → Good a d (run l' h' e' ∷ ss) → ((k : ℕ) → dir_at (run l h e ∷ rs) k ≡ dir_at (run l' h' e' ∷ ss) k) → l' ≤ l
no_earlier a d l h e rs l' h' e' ss g g' m = go (dec_lt l l')
  where
    go : Dec (l < l') → l' ≤ l
    go (yes q) = absurd (g.2 (sym (at_first l h e rs l (omega arith) g.1) ∙ m l ∙ at_below l' off (run l' h' e' ∷ ss) l (omega arith, g'.1, g'.2, λ _. g'.2, g'.4) q))
    go (no q) = omega arith

no_shorter : (l h : ℕ) (e : Dir) (rs : List Run) (h' : ℕ) (ss : List Run) → l < h → e ≢ off
    → Good h e rs → ((k : ℕ) → dir_at (run l h e ∷ rs) k ≡ dir_at (run l h' e ∷ ss) k) → h' ≤ h
no_shorter l h e rs h' ss lh ne g m = go (dec_lt h h')
  where
    go : Dec (h < h') → h' ≤ h
    go (yes q) = absurd (at_start h e rs ne g (sym (at_later l h e rs h (omega arith)) ∙ m h ∙ at_first l h' e ss h (omega arith) q))
    go (no q) = omega arith

rest_same : (l h : ℕ) (e : Dir) (rs ss : List Run) → Good h e rs → Good h e ss → ((k : ℕ) → dir_at (run l h e ∷ rs) k ≡ dir_at (run l h e ∷ ss) k) → (k : ℕ) → dir_at rs k ≡ dir_at ss k
rest_same l h e rs ss g g' m k = go (dec_lt k h)
  where
    go : Dec (k < h) → dir_at rs k ≡ dir_at ss k
    go (yes q) = at_below h e rs k g q ∙ sym (at_below h e ss k g' q)
    go (no q) = sym (at_later l h e rs k (omega arith)) ∙ m k ∙ at_later l h e ss k (omega arith)

-- the same first run, from what both mean
first_same : (a : ℕ) (d : Dir) (l h : ℕ) (e : Dir) (rs : List Run) (l' h' : ℕ) (e' : Dir) (ss : List Run)
    → Good a d (run l h e ∷ rs) → Good a d (run l' h' e' ∷ ss) → ((k : ℕ) → dir_at (run l h e ∷ rs) k ≡ dir_at (run l' h' e' ∷ ss) k)
    → (l ≡ l') × (h ≡ h') × (e ≡ e')
first_same a d l h e rs l' h' e' ss g g' m =
    let p : l ≡ l' = omega (arith, no_earlier a d l h e rs l' h' e' ss g g' m, no_earlier a d l' h' e' ss l h e rs g' g (λ k. sym (m k))) in
    let q : e ≡ e' = sym (at_first l h e rs l (omega arith) g.1) ∙ m l ∙ at_first l' h' e' ss l (omega arith) (omega arith) in
    let m' : (k : ℕ) → dir_at (run l h e ∷ rs) k ≡ dir_at (run l h' e ∷ ss) k = rw (← p, ← q) at m in
    let g'' : Good h' e ss = rw (← q) at g'.4 in
    (p, omega (arith, no_shorter l h e rs h' ss g.1 g.2 g.4 m', no_shorter l h' e ss h rs (omega arith) g.2 g'' (λ k. sym (m' k))), q)

pub unique : (a : ℕ) (d : Dir) (rs ss : List Run) → Good a d rs → Good a d ss → ((k : ℕ) → dir_at rs k ≡ dir_at ss k) → rs ≡ ss
unfolding dir_at
unique a d [] [] g g' m = refl
unique a d [] (run l h e ∷ ss) g g' m = absurd (g'.2 (sym (at_first l h e ss l (omega arith) g'.1) ∙ sym (m l)))
unique a d (run l h e ∷ rs) [] g g' m = absurd (g.2 (sym (at_first l h e rs l (omega arith) g.1) ∙ m l))
unique a d (run l h e ∷ rs) (run l' h' e' ∷ ss) g g' m =
    let f : (l ≡ l') × (h ≡ h') × (e ≡ e') = first_same a d l h e rs l' h' e' ss g g' m in
    let g'' : Good h e ss = rw (← f.1, ← f.2) at g'.4 in
    let m' : (k : ℕ) → dir_at (run l h e ∷ rs) k ≡ dir_at (run l h e ∷ ss) k = rw (← f.0, ← f.1, ← f.2) at m in
    let r : rs ≡ ss = unique h e rs ss g.4 g'' (rest_same l h e rs ss g.4 g'' m') in
    cc (f.0, f.1, f.2, r)

-- ---- no run of a line reaches past its last piece

abbrev pub UpTo : ℕ → Run → Type 0
UpTo m (run l h d) = h ≤ m

upto_if : (t : Bool) (a b : ℕ) (d : Dir) (l h : ℕ) (e : Dir) (rs : List Run) (m : ℕ) → b ≤ m → h ≤ m → All (UpTo m) rs → All (UpTo m) (join_if t a b d l h e rs)
upto_if true a b d l h e rs m p q r = (q, r)
upto_if false a b d l h e rs m p q r = (p, (q, r))

upto_join : (a b : ℕ) (d : Dir) (rs : List Run) (m : ℕ) → b ≤ m → All (UpTo m) rs → All (UpTo m) (join a b d rs)
upto_join a b d [] m p r = (p, tt)
upto_join a b d (run l h e ∷ rs) m p r = upto_if (eqb l b && same_dir e d) a b d l h e rs m p r.0 r.1

upto_put : (a b : ℕ) (d : Dir) (rs : List Run) (m : ℕ) → b ≤ m → All (UpTo m) rs → All (UpTo m) (put a b d rs)
upto_put a b off rs m p r = r
upto_put a b fwd rs m p r = upto_join a b fwd rs m p r
upto_put a b bwd rs m p r = upto_join a b bwd rs m p r

pub line_upto : (f : ℕ → Dir) (a n m : ℕ) → a + n ≤ m → All (UpTo m) (line f a n)
unfolding line
line_upto f a zero m p = tt
line_upto f a (suc n) m p = upto_put a (suc a) (f a) (line f (suc a) n) m (omega arith) (line_upto f (suc a) n m (omega arith))
