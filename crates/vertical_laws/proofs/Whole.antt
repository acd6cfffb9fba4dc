-- The vertical records that the horizontals of a result, by ranks, make. Assumes nothing.
--
--   ends_ranked       their ends are as the loop wants them
--   uprights_ranked   what they make are the vertical records of the result
--   uprights_many     as many as they are
use Rattle.std.specs.Prelude.{◌≡◌, Bool, true, false, List, [], ◌∷◌, map, ℕ, zero, suc, ◌*◌, ◌≤◌, eqb, length}
use Rattle.std.proofs.Common.{sym, ap, ◌∙◌, arith}
use Rattle.meaning.specs.Records.{Record, each}
use Rattle.basic_laws.specs.Lists.{All, all_append}
use Rattle.grid_laws.specs.Plane.{level_n, upright_n, kind_n}
use Rattle.grid_laws.specs.Places.{Rising}
use Rattle.vertical_laws.specs.Tips.{Tip, tip, tips_of, keep_if, only, by_x, verticals_n}
use Rattle.vertical_laws.specs.PlaneTips.{Opposed}
use Rattle.vertical_laws.proofs.PlaneTips.{all_opposed}
use Rattle.vertical_laws.specs.Theorem.{tips_many, opposed_many}
use Rattle.vertical_laws.specs.Numbered.{starts, starts_is, starts_all}
use Rattle.vertical_laws.specs.Ranked.{on_upright, on_tip, RankTip, tips_ranks, rising_one, by_ranks}
use Rattle.vertical_laws.proofs.Ranked.{tips_on, verticals_ranked}
use Rattle.vertical_laws.specs.Placing.{Ends}
use Rattle.vertical_laws.specs.Whole.{Horizontals}

opposed_back : (vx : List ℕ) (us : List (Tip ℕ)) → Rising 0 vx → All (RankTip (length vx)) us → Opposed (map (on_tip vx) us) → Opposed us
opposed_back vx [] r a o = tt
opposed_back vx (t ∷ []) r a o = absurd o
opposed_back vx (tip x y b ∷ tip x' y' b' ∷ us) r a o = (rising_one vx x x' r a.0 a.1.0 o.0, o.1, opposed_back vx us r a.1.1 o.2)

keep_all : (P : Tip ℕ → Type 0) (c : Bool) (t : Tip ℕ) (ts : List (Tip ℕ)) → P t → All P ts → All P (keep_if c t ts)
keep_all P true t ts p a = (p, a)
keep_all P false t ts p a = a

only_all : (n x : ℕ) (ts : List (Tip ℕ)) → All (RankTip n) ts → All (RankTip n) (only (λ k. eqb k x) ts)
unfolding only
only_all n x [] a = tt
only_all n x (tip k y b ∷ ts) a = keep_all (RankTip n) (eqb k x) (tip k y b) (only (λ k. eqb k x) ts) a.0 (only_all n x ts a.1)

each_all : (P : Tip ℕ → Type 0) (h : ℕ → List (Tip ℕ)) (a n : ℕ) → ((x : ℕ) → All P (h x)) → All P (each h a n)
unfolding each
each_all P h a zero f = tt
each_all P h a (suc n) f = all_append P (h a) (each h (suc a) n) (f a) (each_all P h (suc a) n f)

by_all : (n m : ℕ) (ts : List (Tip ℕ)) → All (RankTip n) ts → All (RankTip n) (by_x m ts)
unfolding by_x
by_all n m ts a = each_all (RankTip n) (λ x. only (λ k. eqb k x) ts) 0 m (λ x. only_all n x ts a)

pub ends_ranked : (N : ℕ) (g : ℕ → ℕ → Bool) (vx : List ℕ) (hr : List (Record ℕ)) (room : ℕ) → Horizontals N g vx hr → 4 * length hr ≤ room → Ends (length vx) (length hr) (tips_of hr) room
ends_ranked N g vx hr room H f =
    let a : All (RankTip (length vx)) (tips_of hr) = tips_ranks (length vx) hr H.ranks in
    let e : by_x (suc N) (tips_of (kind_n 0 (level_n g) N)) ≡ map (on_tip vx) (by_x (length vx) (tips_of hr)) =
    ap (λ hs. by_x (suc N) (tips_of hs)) (sym H.are) ∙ ap (by_x (suc N)) (tips_on vx hr) ∙ by_ranks (suc N) vx (tips_of hr) H.rising (λ k p. H.last k (omega arith)) a in
    let o : Opposed (map (on_tip vx) (by_x (length vx) (tips_of hr))) = rw e at (all_opposed N g H.bounded) in
    record {
      ranks = a;
      opposed = opposed_back vx (by_x (length vx) (tips_of hr)) H.rising (by_all (length vx) (length vx) (tips_of hr) a) o;
      number = tips_many hr;
      fits = f;
    }

pub uprights_ranked : (N : ℕ) (g : ℕ → ℕ → Bool) (vx : List ℕ) (hr : List (Record ℕ)) → Horizontals N g vx hr → map (on_upright vx) (verticals_n (length vx) hr) ≡ kind_n 1 (upright_n g) N
uprights_ranked N g vx hr H = verticals_ranked N g H.bounded vx hr H.rising H.last H.ranks H.are

pub uprights_many : (N : ℕ) (g : ℕ → ℕ → Bool) (vx : List ℕ) (hr : List (Record ℕ)) → Horizontals N g vx hr → length (verticals_n (length vx) hr) ≡ length hr
unfolding verticals_n
uprights_many N g vx hr H =
    let E : Ends (length vx) (length hr) (tips_of hr) (4 * length hr) = ends_ranked N g vx hr (4 * length hr) H (omega arith) in
    let all : starts (length vx) (tips_of hr) ≡ length (tips_of hr) = starts_all (length vx) (tips_of hr) E.ranks in
    omega (arith, opposed_many (by_x (length vx) (tips_of hr)) E.opposed, starts_is (length vx) (tips_of hr), all, E.number)
