-- Ends and vertical records by ranks, as the program has them: the place of x in the rising list vx of all x stands for x. Their law is in proofs/Ranked.antt.
-- Assumes nothing.
--
--   on_upright vx r                 the record in steps of a vertical record by ranks
--   on_tip vx t                     the end in steps of an end by ranks
--   RankTip n t                     the x of the end t is a rank below n
--   tips_ranks                      the ends of horizontals by ranks are ends by ranks
--   rising_one                      no two ranks stand for one x
--   by_ranks                        buckets by ranks are the buckets, by ranks
use Rattle.std.specs.Prelude.{◌≡◌, refl, Bool, false, List, [], ◌∷◌, ◌++◌, map, ℕ, zero, suc, ◌≤◌, ◌<◌, eqb, length, get_or}
use Rattle.std.proofs.Common.{sym, ap, ap₂, ◌∙◌, arith, ne_eqb}
use Rattle.std.proofs.Math.Decide.{dec_lt}
use Rattle.meaning.specs.Records.{Record, rec, each}
use Rattle.basic_laws.specs.Tests.{eqb_same}
use Rattle.basic_laws.specs.Lists.{All}
use Rattle.grid_laws.specs.Plane.{each_of}
use Rattle.grid_laws.specs.Places.{has, has_ne, has_tail, Rising, each_at}
use Rattle.horizontal.specs.Words.{Ranks}
use Rattle.vertical_laws.specs.Tips.{Tip, tip, tips_of, keep_if, only, by_x}
use Rattle.vertical_laws.specs.LineTips.{each_shift}
use Rattle.vertical_laws.specs.PlaneTips.{each_same}
use Rattle.vertical_laws.specs.Theorem.{keep_map, map_each}

abbrev pub on_upright : List ℕ → Record ℕ → Record ℕ
on_upright vx (rec k r f t) = rec k (get_or vx r 0) f t

abbrev pub on_tip : List ℕ → Tip ℕ → Tip ℕ
on_tip vx (tip r y b) = tip (get_or vx r 0) y b

abbrev pub RankTip : ℕ → Tip ℕ → Type 0
RankTip n (tip r y b) = r < n

pub tips_ranks : (n : ℕ) (hr : List (Record ℕ)) → All (Ranks n) hr → All (RankTip n) (tips_of hr)
unfolding tips_of
tips_ranks n [] a = tt
tips_ranks n (rec k y f t ∷ hr) a = (a.0.0, (a.0.1, tips_ranks n hr a.1))

-- ---- a rising list

rising_from : (a : ℕ) (vx : List ℕ) (i : ℕ) → Rising a vx → i < length vx → a ≤ get_or vx i 0
rising_from a [] i r h = absurd (omega arith)
rising_from a (v ∷ vx) zero r h = r.0
rising_from a (v ∷ vx) (suc i) r h = omega (arith, rising_from (suc v) vx i r.1 (omega arith), r.0)

rising_less : (a : ℕ) (vx : List ℕ) (i j : ℕ) → Rising a vx → i < j → j < length vx → get_or vx i 0 < get_or vx j 0
rising_less a [] i j r p h = absurd (omega arith)
rising_less a (v ∷ vx) zero zero r p h = absurd (omega arith)
rising_less a (v ∷ vx) zero (suc j) r p h = rising_from (suc v) vx j r.1 (omega arith)
rising_less a (v ∷ vx) (suc i) zero r p h = absurd (omega arith)
rising_less a (v ∷ vx) (suc i) (suc j) r p h = rising_less (suc v) vx i j r.1 (omega arith) (omega arith)

pub rising_one : (vx : List ℕ) (i j : ℕ) → Rising 0 vx → i < length vx → j < length vx → get_or vx i 0 ≡ get_or vx j 0 → i ≡ j
rising_one vx i j r p q e = go (dec_lt i j) (dec_lt j i)
  where
    go : Dec (i < j) → Dec (j < i) → i ≡ j
    go (yes u) w = absurd (omega (arith, rising_less 0 vx i j r u q, e))
    go (no u) (yes v) = absurd (omega (arith, rising_less 0 vx j i r v p, e))
    go (no u) (no v) = omega arith

not_has : (vx : List ℕ) (k i : ℕ) → has k vx ≡ false → i < length vx → get_or vx i 0 ≡ k → ⊥
not_has [] k i h p e = absurd (omega arith)
not_has (v ∷ vx) k zero h p e = has_ne k v vx h (sym e)
not_has (v ∷ vx) k (suc i) h p e = not_has vx k i (has_tail k v vx h) (omega arith) e

of_index : {A : Type 0} (h : ℕ → List A) (vx : List ℕ) → each_of h vx ≡ each (λ r. h (get_or vx r 0)) 0 (length vx)
unfolding each_of each
of_index h [] = refl
of_index h (v ∷ vx) = ap (◌++◌ (h v)) (of_index h vx ∙ sym (each_shift (λ r. h (get_or (v ∷ vx) r 0)) 0 (length vx)))

-- ---- buckets

only_on : (vx : List ℕ) (r : ℕ) (ts : List (Tip ℕ)) → Rising 0 vx → r < length vx → All (RankTip (length vx)) ts
    → only (λ k. eqb k (get_or vx r 0)) (map (on_tip vx) ts) ≡ map (on_tip vx) (only (λ k. eqb k r) ts)
unfolding only
only_on vx r [] s p a = refl
only_on vx r (tip i y b ∷ ts) s p a =
    ap₂ (λ (c : Bool) (us : List (Tip ℕ)). keep_if c (tip (get_or vx i 0) y b) us)
    (eqb_same (get_or vx i 0) (get_or vx r 0) i r (λ e. rising_one vx i r s a.0 p e) (λ e. ap (λ k. get_or vx k 0) e))
    (only_on vx r ts s p a.1)
    ∙ keep_map (on_tip vx) (eqb i r) (tip i y b) (only (λ k. eqb k r) ts)

only_none : (vx : List ℕ) (k : ℕ) (ts : List (Tip ℕ)) → has k vx ≡ false → All (RankTip (length vx)) ts → only (λ i. eqb i k) (map (on_tip vx) ts) ≡ []
unfolding only
only_none vx k [] h a = refl
only_none vx k (tip i y b ∷ ts) h a = rw (ne_eqb (get_or vx i 0) k (not_has vx k i h a.0)) (only_none vx k ts h a.1)

pub by_ranks : (n : ℕ) (vx : List ℕ) (ts : List (Tip ℕ)) → Rising 0 vx → ((k : ℕ) → n ≤ k → has k vx ≡ false) → All (RankTip (length vx)) ts
    → by_x n (map (on_tip vx) ts) ≡ map (on_tip vx) (by_x (length vx) ts)
unfolding by_x
by_ranks n vx ts s l a =
    each_at (λ x. only (λ k. eqb k x) (map (on_tip vx) ts)) n 0 vx s (λ k p. l k (omega arith)) (λ k p h. only_none vx k ts h a)
    ∙ of_index (λ x. only (λ k. eqb k x) (map (on_tip vx) ts)) vx
    ∙ each_same _ (λ r. map (on_tip vx) (only (λ k. eqb k r) ts)) 0 (length vx) (λ r p q. only_on vx r ts s (omega arith) a)
    ∙ map_each (on_tip vx) (λ r. only (λ k. eqb k r) ts) 0 (length vx)
