-- The vertical records from the ends of the horizontal ones, in steps. Assumes nothing.
--
--   tip_patterns     THE TABLE OF PATTERNS: the sixteen ways in which the four cells round a point can be inside
--   ends_at          THE ENDS AT x of the horizontal records are those of the vertical records at x, in order
--   verticals_are    so pairs of them are the vertical records
--   all_opposed      and in each pair one is a `from`, the other a `to`
use Rattle.std.specs.Prelude.{◌≡◌, refl, Bool, true, false, not, List, [], ◌∷◌, ◌++◌, map, ℕ, zero, suc, ◌+◌, ◌≤◌, ◌<◌, eqb}
use Rattle.std.proofs.Common.{sym, ap, ap₂, ◌∙◌, append-nil, arith, eq-eqb, ne_eqb, eqb-true}
use Rattle.std.proofs.Math.Decide.{ℕ_discrete}
use Rattle.meaning.specs.Cells.{Dir, off, fwd, bwd, turn}
use Rattle.meaning.specs.Records.{Run, run, line, Record, rec, each}
use Rattle.grid_laws.specs.Plane.{prior, level_n, upright_n, record_at, kind_n}
use Rattle.grid_laws.specs.OneLine.{Good, line_good}
use Rattle.grid_laws.specs.Beside.{Bounded}
use Rattle.vertical_laws.specs.Tips.{Tip, tip, tips_of, keep_if, only, pairs, by_x, verticals_n}
use Rattle.vertical_laws.specs.LineTips.{cut, prev, flat}
use Rattle.vertical_laws.proofs.LineTips.{line_points}
use Rattle.vertical_laws.specs.PlaneTips.{Opposed, each_same, only_append}

-- ---- lists

each_none : {A : Type 0} (h : ℕ → List A) (a n : ℕ) → ((i : ℕ) → a ≤ i → i < a + n → h i ≡ []) → each h a n ≡ []
unfolding each
each_none h a zero e = refl
each_none h a (suc n) e = ap₂ (λ xs ys. xs ++ ys) (e a (omega arith) (omega arith)) (each_none h (suc a) n (λ i p q. e i (omega arith) (omega arith)))

each_only : {A : Type 0} (h : ℕ → List A) (a n x : ℕ) → a ≤ x → x < a + n → ((i : ℕ) → (i ≡ x → ⊥) → h i ≡ []) → each h a n ≡ h x
unfolding each
each_only h a zero x p q e = absurd (omega arith)
each_only h a (suc n) x p q e = go (ℕ_discrete a x) (λ u v. each_only h (suc a) n x u v e)
  where
    go : Dec (a ≡ x) → (suc a ≤ x → x < suc a + n → each h (suc a) n ≡ h x) → h a ++ each h (suc a) n ≡ h x
    go (yes s) r = ap (◌++◌ (h a)) (each_none h (suc a) n (λ i u v. e i (λ w. omega arith))) ∙ append-nil (h a) ∙ ap h s
    go (no s) r = ap (λ xs. xs ++ each h (suc a) n) (e a s) ∙ r (omega arith) (omega arith)

only_each : {A : Type 0} (p : A → Bool) (h : ℕ → List (Tip A)) (a n : ℕ) → only p (each h a n) ≡ each (λ k. only p (h k)) a n
unfolding each only
only_each p h a zero = refl
only_each p h a (suc n) = only_append p (h a) (each h (suc a) n) ∙ ap (◌++◌ (only p (h a))) (only_each p h (suc a) n)

tips_append : {A : Type 0} (rs ss : List (Record A)) → tips_of (rs ++ ss) ≡ tips_of rs ++ tips_of ss
unfolding tips_of
tips_append [] ss = refl
tips_append (rec kind y f t ∷ rs) ss = ap (λ ts. tip f y false ∷ tip t y true ∷ ts) (tips_append rs ss)

tips_each : {A : Type 0} (h : ℕ → List (Record A)) (a n : ℕ) → tips_of (each h a n) ≡ each (λ k. tips_of (h k)) a n
unfolding each tips_of
tips_each h a zero = refl
tips_each h a (suc n) = tips_append (h a) (each h (suc a) n) ∙ ap (◌++◌ (tips_of (h a))) (tips_each h (suc a) n)

-- ---- one horizontal line

-- a horizontal's `from` is a vertical's `to`
abbrev over : ℕ → ℕ → Bool → Tip ℕ
over y x b = tip x y (not b)

swap : (c e : Bool) (l h y : ℕ) (ts : List (Tip ℕ)) → (c ≡ true → e ≡ true → ⊥)
    → keep_if c (tip h y false) (keep_if e (tip l y true) ts) ≡ keep_if e (tip l y true) (keep_if c (tip h y false) ts)
swap true true l h y ts n = absurd (n refl refl)
swap true false l h y ts n = refl
swap false true l h y ts n = refl
swap false false l h y ts n = refl

runs_tips : (x y a : ℕ) (d : Dir) (rs : List Run) → Good a d rs → only (λ k. eqb k x) (tips_of (map (record_at 0 y) rs)) ≡ only (λ k. eqb k x) (flat (over y) rs)
unfolding only tips_of flat
runs_tips x y a d [] g = refl
runs_tips x y a d (run l h off ∷ rs) g = absurd (g.2 refl)
runs_tips x y a d (run l h fwd ∷ rs) g = ap (λ (ts : List (Tip ℕ)). keep_if (eqb l x) (tip l y false) (keep_if (eqb h x) (tip h y true) ts)) (runs_tips x y h fwd rs g.4)
runs_tips x y a d (run l h bwd ∷ rs) g =
    ap (λ (ts : List (Tip ℕ)). keep_if (eqb h x) (tip h y false) (keep_if (eqb l x) (tip l y true) ts)) (runs_tips x y h bwd rs g.4)
    ∙ swap (eqb h x) (eqb l x) l h y (only (λ k. eqb k x) (flat (over y) rs)) (λ p q. omega (arith, g.1, eqb-true h x p, eqb-true l x q))

here : (x y : ℕ) (bs : List Bool) → only (λ k. eqb k x) (map (over y x) bs) ≡ map (over y x) bs
unfolding only
here x y [] = refl
here x y (b ∷ bs) = rw (eq-eqb x x refl) (ap (◌∷◌ (over y x b)) (here x y bs))

elsewhere : (x y k : ℕ) (bs : List Bool) → (k ≡ x → ⊥) → only (λ i. eqb i x) (map (over y k) bs) ≡ []
unfolding only
elsewhere x y k [] n = refl
elsewhere x y k (b ∷ bs) n = rw (ne_eqb k x n) (elsewhere x y k bs n)

row_tips : (f : ℕ → Dir) (N x y : ℕ) → f N ≡ off → x ≤ N → only (λ k. eqb k x) (tips_of (map (record_at 0 y) (line f 0 N))) ≡ map (over y x) (cut (prev f x) (f x))
row_tips f N x y h p =
    runs_tips x y 0 off (line f 0 N) (line_good f 0 N)
    ∙ ap (only (λ k. eqb k x)) (line_points (over y) f N h)
    ∙ only_each (λ k. eqb k x) (λ k. map (over y k) (cut (prev f k) (f k))) 0 (suc N)
    ∙ each_only (λ k. only (λ i. eqb i x) (map (over y k) (cut (prev f k) (f k)))) 0 (suc N) x (omega arith) (omega arith) (λ k n. elsewhere x y k (cut (prev f k) (f k)) n)
    ∙ here x y (cut (prev f x) (f x))

-- ---- the points of the plane

-- a and b above the point, c and d below it; a and c on its left
pub tip_patterns : (a b c d : Bool) → map not (cut (turn c a) (turn d b)) ≡ cut (turn d c) (turn b a)
tip_patterns true true true true = refl
tip_patterns true true true false = refl
tip_patterns true true false true = refl
tip_patterns true true false false = refl
tip_patterns true false true true = refl
tip_patterns true false true false = refl
tip_patterns true false false true = refl
tip_patterns true false false false = refl
tip_patterns false true true true = refl
tip_patterns false true true false = refl
tip_patterns false true false true = refl
tip_patterns false true false false = refl
tip_patterns false false true true = refl
tip_patterns false false true false = refl
tip_patterns false false false true = refl
tip_patterns false false false false = refl

tip_point : (g : ℕ → ℕ → Bool) (x y : ℕ) → map not (cut (prev (level_n g y) x) (level_n g y x)) ≡ cut (prev (upright_n g x) y) (upright_n g x y)
unfolding level_n upright_n
tip_point g zero zero = tip_patterns false (g 0 0) false false
tip_point g zero (suc y) = tip_patterns false (g 0 (suc y)) false (g 0 y)
tip_point g (suc x) zero = tip_patterns (g x 0) (g (suc x) 0) false false
tip_point g (suc x) (suc y) = tip_patterns (g x (suc y)) (g (suc x) (suc y)) (g x y) (g (suc x) y)

over_not : (x y : ℕ) (bs : List Bool) → map (over y x) bs ≡ map (tip x y) (map not bs)
over_not x y [] = refl
over_not x y (b ∷ bs) = ap (◌∷◌ (over y x b)) (over_not x y bs)

level_last : (N : ℕ) (g : ℕ → ℕ → Bool) → Bounded N g → (y : ℕ) → level_n g y N ≡ off
unfolding level_n
level_last N g b y = ap₂ turn (side y) (b.right N y (omega arith))
  where
    side : (y : ℕ) → prior (g N) y ≡ false
    side zero = refl
    side (suc y) = b.right N y (omega arith)

upright_last : (N : ℕ) (g : ℕ → ℕ → Bool) → Bounded N g → (x : ℕ) → upright_n g x N ≡ off
unfolding upright_n
upright_last N g b x = ap₂ turn (b.top x N (omega arith)) (top x)
  where
    top : (x : ℕ) → prior (λ i. g i N) x ≡ false
    top zero = refl
    top (suc x) = b.top x N (omega arith)

pub ends_at : (N : ℕ) (g : ℕ → ℕ → Bool) → Bounded N g → (x : ℕ) → x ≤ N → only (λ k. eqb k x) (tips_of (kind_n 0 (level_n g) N)) ≡ flat (tip x) (line (upright_n g x) 0 N)
unfolding kind_n
ends_at N g b x p =
    ap (only (λ k. eqb k x)) (tips_each (λ y. map (record_at 0 y) (line (level_n g y) 0 N)) 0 (suc N))
    ∙ only_each (λ k. eqb k x) (λ y. tips_of (map (record_at 0 y) (line (level_n g y) 0 N))) 0 (suc N)
    ∙ each_same _ (λ y. map (tip x y) (cut (prev (upright_n g x) y) (upright_n g x y))) 0 (suc N) (λ y u v. row y)
    ∙ sym (line_points (tip x) (upright_n g x) N (upright_last N g b x))
  where
    row : (y : ℕ) → only (λ k. eqb k x) (tips_of (map (record_at 0 y) (line (level_n g y) 0 N))) ≡ map (tip x y) (cut (prev (upright_n g x) y) (upright_n g x y))
    row y =
        row_tips (level_n g y) N x y (level_last N g b y) p
        ∙ over_not x y (cut (prev (level_n g y) x) (level_n g y x))
        ∙ ap (map (tip x y)) (tip_point g x y)

-- ---- pairs

pairs_flat : (x a : ℕ) (d : Dir) (rs : List Run) (ts : List (Tip ℕ)) → Good a d rs → pairs (flat (tip x) rs ++ ts) ≡ map (record_at 1 x) rs ++ pairs ts
unfolding flat pairs
pairs_flat x a d [] ts g = refl
pairs_flat x a d (run l h off ∷ rs) ts g = absurd (g.2 refl)
pairs_flat x a d (run l h fwd ∷ rs) ts g = ap (◌∷◌ (rec 1 x l h)) (pairs_flat x h fwd rs ts g.4)
pairs_flat x a d (run l h bwd ∷ rs) ts g = ap (◌∷◌ (rec 1 x h l)) (pairs_flat x h bwd rs ts g.4)

pairs_each : (F : ℕ → ℕ → Dir) (N a n : ℕ) → pairs (each (λ x. flat (tip x) (line (F x) 0 N)) a n) ≡ each (λ x. map (record_at 1 x) (line (F x) 0 N)) a n
unfolding each pairs
pairs_each F N a zero = refl
pairs_each F N a (suc n) =
    pairs_flat a 0 off (line (F a) 0 N) (each (λ x. flat (tip x) (line (F x) 0 N)) (suc a) n) (line_good (F a) 0 N)
    ∙ ap (◌++◌ (map (record_at 1 a) (line (F a) 0 N))) (pairs_each F N (suc a) n)

pub all_ends : (N : ℕ) (g : ℕ → ℕ → Bool) → Bounded N g → by_x (suc N) (tips_of (kind_n 0 (level_n g) N)) ≡ each (λ x. flat (tip x) (line (upright_n g x) 0 N)) 0 (suc N)
unfolding by_x
all_ends N g b = each_same _ _ 0 (suc N) (λ x u v. ends_at N g b x (omega arith))

pub verticals_are : (N : ℕ) (g : ℕ → ℕ → Bool) → Bounded N g → verticals_n (suc N) (kind_n 0 (level_n g) N) ≡ kind_n 1 (upright_n g) N
unfolding verticals_n kind_n
verticals_are N g b = ap pairs (all_ends N g b) ∙ pairs_each (upright_n g) N 0 (suc N)

-- ---- in each pair one is a `from`, the other a `to`

opposed_flat : (x a : ℕ) (d : Dir) (rs : List Run) (ts : List (Tip ℕ)) → Good a d rs → Opposed ts → Opposed (flat (tip x) rs ++ ts)
unfolding flat
opposed_flat x a d [] ts g o = o
opposed_flat x a d (run l h off ∷ rs) ts g o = absurd (g.2 refl)
opposed_flat x a d (run l h fwd ∷ rs) ts g o = (refl, refl, opposed_flat x h fwd rs ts g.4 o)
opposed_flat x a d (run l h bwd ∷ rs) ts g o = (refl, refl, opposed_flat x h bwd rs ts g.4 o)

opposed_each : (F : ℕ → ℕ → Dir) (N a n : ℕ) → Opposed (each (λ x. flat (tip x) (line (F x) 0 N)) a n)
unfolding each
opposed_each F N a zero = tt
opposed_each F N a (suc n) = opposed_flat a 0 off (line (F a) 0 N) (each (λ x. flat (tip x) (line (F x) 0 N)) (suc a) n) (line_good (F a) 0 N) (opposed_each F N (suc a) n)

pub all_opposed : (N : ℕ) (g : ℕ → ℕ → Bool) → Bounded N g → Opposed (by_x (suc N) (tips_of (kind_n 0 (level_n g) N)))
all_opposed N g b = rw (all_ends N g b) (opposed_each (upright_n g) N 0 (suc N))
