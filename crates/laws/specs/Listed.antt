-- When a piece is listed: every unit piece is in exactly one record of its direction where its two side cells differ, and in none where they
-- do not, over all whole numbers. Assumes nothing.
--
--   level_listed      WHEN A PIECE IS LISTED, of the horizontals
--   upright_listed    and of the verticals
--   Inner N r         a record in steps lies in the range of N steps; result_inner
use Rattle.std.specs.Prelude.{◌≡◌, refl, Bool, true, false, ◌&&◌, ◌⊎◌, List, [], ◌∷◌, map, ℕ, zero, suc, ◌+◌, ◌*◌, ◌≤◌, ◌<◌, eqb, ℤ, pos, neg_ℤ}
use Rattle.std.proofs.Common.{sym, ap₂, ◌∙◌, true≢false, inl, inr, arith, le-leb}
use Rattle.std.proofs.Math.Path.{ap}
use Rattle.std.proofs.Math.Decide.{dec_lt}
use Rattle.std.proofs.Math.IntN.{pred_ℤ}
use Rattle.std.specs.Int.Signed.{lt_z, le_z}
use Rattle.meaning.specs.Numbers.{bit, eq_z, in_range, step}
use Rattle.meaning.specs.Edges.{number}
use Rattle.meaning.specs.Cells.{Dir, off, fwd, bwd, turn, goes, level, upright, Within}
use Rattle.meaning.specs.Records.{Run, run, line, Record, rec, each, result, passes, passing}
use Rattle.basic_laws.specs.Tests.{and_off, spans}
use Rattle.basic_laws.specs.Lists.{All, all_map, all_append, all_to_map, number_none}
use Rattle.basic_laws.specs.Signed.{eq_z_no, lt_le_trans, le_trans_le_z, lt_not_le, le_not_lt, lt_le, pred_lt, lt_pred}
use Rattle.basic_laws.specs.Steps.{lift, step_lt, step_le, step_eq, step_lift, lift_le, step_range, beyond, lowered}
use Rattle.grid_laws.specs.Plane.{level_n, upright_n, record_at, kind_n, result_n}
use Rattle.grid_laws.specs.OneLine.{Good, UpTo, line_good, line_upto}
use Rattle.basic_laws.specs.Sums.{sum_of}
use Rattle.grid_laws.specs.Pieces.{passes_n, passing_n, level_passing, upright_passing}
use Rattle.laws.specs.View.{view, level_view, upright_view, result_view, first_step, last_step, last_is}

-- ---- a record in steps passes what its lowered record passes

passes_view : (L kind p k : ℕ) (d : Bool) (r : Record ℕ) → passes kind (step L p) (step L k) d (lowered L r) ≡ passes_n kind p k d r
unfolding passes passes_n spans
passes_view L kind p k true (rec kd pl f t) = rw (step_eq L pl p, step_le L f k, step_lt L k t)
passes_view L kind p k false (rec kd pl f t) = rw (step_eq L pl p, step_le L t k, step_lt L k f)

pub passing_view : (L kind p k : ℕ) (d : Bool) (rs : List (Record ℕ)) → passing kind (step L p) (step L k) d (map (lowered L) rs) ≡ passing_n kind p k d rs
unfolding passing passing_n number sum_of
passing_view L kind p k d [] = refl
passing_view L kind p k d (r ∷ rs) = ap₂ (λ (b : Bool) (n : ℕ). bit b + n) (passes_view L kind p k d r) (passing_view L kind p k d rs)

-- ---- the numbers of a result lie in the range

abbrev pub Inner : ℕ → Record ℕ → Type 0
Inner N (rec kind p f t) = (p ≤ N) × (f ≤ N) × (t ≤ N)

line_inner : (kind p N a : ℕ) (d : Dir) (rs : List Run) → p ≤ N → Good a d rs → All (UpTo N) rs → All (Inner N) (map (record_at kind p) rs)
line_inner kind p N a d [] l g u = tt
line_inner kind p N a d (run lo hi off ∷ rs) l g u = ((l, omega (arith, g.1, u.0), omega (arith, g.1, u.0)), line_inner kind p N hi off rs l g.4 u.1)
line_inner kind p N a d (run lo hi fwd ∷ rs) l g u = ((l, omega (arith, g.1, u.0), u.0), line_inner kind p N hi fwd rs l g.4 u.1)
line_inner kind p N a d (run lo hi bwd ∷ rs) l g u = ((l, u.0, omega (arith, g.1, u.0)), line_inner kind p N hi bwd rs l g.4 u.1)

pub all_each : {A : Type 0} (P : A → Type 0) (h : ℕ → List A) (a n : ℕ) → ((p : ℕ) → a ≤ p → p < a + n → All P (h p)) → All P (each h a n)
unfolding each
all_each P h a zero e = tt
all_each P h a (suc n) e = all_append P (h a) (each h (suc a) n) (e a (omega arith) (omega arith)) (all_each P h (suc a) n (λ p u v. e p (omega arith) (omega arith)))

pub kind_inner : (kind : ℕ) (F : ℕ → ℕ → Dir) (N : ℕ) → All (Inner N) (kind_n kind F N)
unfolding kind_n
kind_inner kind F N =
    all_each (Inner N) (λ p. map (record_at kind p) (line (F p) 0 N)) 0 (suc N)
    (λ p u v. line_inner kind p N 0 off (line (F p) 0 N) (omega arith) (line_good (F p) 0 N) (line_upto (F p) 0 N N (omega arith)))

pub result_inner : (N : ℕ) (g : ℕ → ℕ → Bool) → All (Inner N) (result_n N g)
unfolding result_n
result_inner N g = all_append (Inner N) (kind_n 0 (level_n g) N) (kind_n 1 (upright_n g) N) (kind_inner 0 (level_n g) N) (kind_inner 1 (upright_n g) N)

-- ---- no record passes a piece outside the range

off_place : (L kind : ℕ) (p k : ℤ) (d : Bool) → in_range L p ≡ false → (r : Record ℕ) → Inner (2 * L) r → passes kind p k d (lowered L r) ≡ false
unfolding passes
off_place L kind p k d h (rec kd pl f t) b = go d (eq_z_no (step L pl) p (λ e. true≢false (sym (step_range L pl b.0) ∙ ap (in_range L) e ∙ h)))
  where
    go : (d : Bool) → eq_z (step L pl) p ≡ false → passes kind p k d (lowered L (rec kd pl f t)) ≡ false
    go true e = rw (e, and_off (eqb kd kind))
    go false e = rw (e, and_off (eqb kd kind))

-- a piece left of the range, and one right of it
off_left : (L kind : ℕ) (p k : ℤ) (d : Bool) → lt_z k (step L 0) ≡ true → (r : Record ℕ) → Inner (2 * L) r → passes kind p k d (lowered L r) ≡ false
unfolding passes
off_left L kind p k d h (rec kd pl f t) b = go d
  where
    low : (n : ℕ) → le_z (step L n) k ≡ false
    low n = lt_not_le k (step L n) (lt_le_trans k (step L 0) (step L n) h (step_le L 0 n ∙ le-leb 0 n (omega arith)))

    go : (d : Bool) → passes kind p k d (lowered L (rec kd pl f t)) ≡ false
    go true = rw (low f, and_off (eqb kd kind && eq_z (step L pl) p))
    go false = rw (low t, and_off (eqb kd kind && eq_z (step L pl) p))

off_right : (L kind : ℕ) (p k : ℤ) (d : Bool) → le_z (step L (2 * L)) k ≡ true → (r : Record ℕ) → Inner (2 * L) r → passes kind p k d (lowered L r) ≡ false
unfolding passes
off_right L kind p k d h (rec kd pl f t) b = go d
  where
    high : (n : ℕ) → n ≤ 2 * L → lt_z k (step L n) ≡ false
    high n l = le_not_lt (step L n) k (le_trans_le_z (step L n) (step L (2 * L)) k (step_le L n (2 * L) ∙ le-leb n (2 * L) l) h)

    go : (d : Bool) → passes kind p k d (lowered L (rec kd pl f t)) ≡ false
    go true = rw (high t b.2, and_off (le_z (step L f) k), and_off (eqb kd kind && eq_z (step L pl) p))
    go false = rw (high f b.1, and_off (le_z (step L t) k), and_off (eqb kd kind && eq_z (step L pl) p))

none_passing : (L kind : ℕ) (p k : ℤ) (d : Bool) (rs : List (Record ℕ)) → All (Inner (2 * L)) rs → ((r : Record ℕ) → Inner (2 * L) r → passes kind p k d (lowered L r) ≡ false)
    → passing kind p k d (map (lowered L) rs) ≡ 0
unfolding passing
none_passing L kind p k d rs a h =
    number_none (passes kind p k d) (map (lowered L) rs) (all_to_map (λ s. passes kind p k d s ≡ false) (lowered L) rs (all_map (Inner (2 * L)) (λ r. passes kind p k d (lowered L r) ≡ false) rs h a))

-- ---- where a piece lies: in the range, or a line or a stretch of it outside

data Spot (L : ℕ) (p k : ℤ) : Type 0 where
  inner : (m n : ℕ) → m ≤ 2 * L → n < 2 * L → p ≡ step L m → k ≡ step L n → Spot L p k
  under : lt_z p (neg_ℤ (pos L)) ≡ true → in_range L p ≡ false → Spot L p k
  over : lt_z (pos L) p ≡ true → in_range L p ≡ false → Spot L p k
  left : lt_z k (neg_ℤ (pos L)) ≡ true → Spot L p k
  right : le_z (pos L) k ≡ true → Spot L p k

spot : (L : ℕ) (p k : ℤ) → Spot L p k
spot L p k = go (in_range L p) (in_range L k) refl refl
  where
    far : (lt_z p (neg_ℤ (pos L)) ≡ true) ⊎ (lt_z (pos L) p ≡ true) → in_range L p ≡ false → Spot L p k
    far (inl u) h = under u h
    far (inr u) h = over u h

    aside : (lt_z k (neg_ℤ (pos L)) ≡ true) ⊎ (lt_z (pos L) k ≡ true) → Spot L p k
    aside (inl u) = left u
    aside (inr u) = right (lt_le (pos L) k u)

    near : in_range L p ≡ true → in_range L k ≡ true → Dec (lift L k < 2 * L) → Spot L p k
    near u v (yes w) = inner (lift L p) (lift L k) (lift_le L p u) w (sym (step_lift L p u)) (sym (step_lift L k v))
    near u v (no w) = right (ap (le_z (pos L)) (sym (step_lift L k v)) ∙ last_step L (lift L k) (omega arith))

    go : (a b : Bool) → in_range L p ≡ a → in_range L k ≡ b → Spot L p k
    go false b u v = far (beyond L p u) u
    go true false u v = aside (beyond L k v)
    go true true u v = near u v (dec_lt (lift L k) (2 * L))

-- ---- the laws

module _ (L : ℕ) (g : ℤ → ℤ → Bool) (w : Within L g) where
  outer : (kind : ℕ) (p k : ℤ) (d : Bool) → ((r : Record ℕ) → Inner (2 * L) r → passes kind p k d (lowered L r) ≡ false) → passing kind p k d (result L g) ≡ 0
  outer kind p k d h = ap (passing kind p k d) (result_view L g w) ∙ none_passing L kind p k d (result_n (2 * L) (view L g)) (result_inner (2 * L) (view L g)) h

  at_first : (z : ℤ) → lt_z z (neg_ℤ (pos L)) ≡ true → lt_z z (step L 0) ≡ true
  at_first z u = ap (lt_z z) (first_step L) ∙ u

  at_last : (z : ℤ) → le_z (pos L) z ≡ true → le_z (step L (2 * L)) z ≡ true
  at_last z u = ap (λ (a : ℤ). le_z a z) (last_is L) ∙ u

  none : (d : Bool) (e : Dir) → e ≡ off → 0 ≡ goes d e
  none true e q = sym (ap (goes true) q)
  none false e q = sym (ap (goes false) q)

  both : (a b : Bool) → a ≡ false → b ≡ false → turn a b ≡ off
  both a b p q = ap₂ turn p q

  pub level_listed : (y i : ℤ) (d : Bool) → passing 0 y i d (result L g) ≡ goes d (level g y i)
  unfolding level
  level_listed y i d = go (spot L y i)
    where
      go : Spot L y i → passing 0 y i d (result L g) ≡ goes d (level g y i)
      go (inner m n u v p q) =
          rw (p, q) (ap (passing 0 (step L m) (step L n) d) (result_view L g w) ∙ passing_view L 0 m n d (result_n (2 * L) (view L g))
          ∙ level_passing (2 * L) (view L g) m n d u v ∙ ap (goes d) (sym (level_view L g w m n)))
      go (under u h) =
          outer 0 y i d (off_place L 0 y i d h)
          ∙ none d (level g y i) (both (g i (pred_ℤ y)) (g i y) (w.below i (pred_ℤ y) (pred_lt y (neg_ℤ (pos L)) u)) (w.below i y u))
      go (over u h) =
          outer 0 y i d (off_place L 0 y i d h)
          ∙ none d (level g y i) (both (g i (pred_ℤ y)) (g i y) (w.above i (pred_ℤ y) (lt_pred L y u)) (w.above i y (lt_le (pos L) y u)))
      go (left u) = outer 0 y i d (off_left L 0 y i d (at_first i u)) ∙ none d (level g y i) (both (g i (pred_ℤ y)) (g i y) (w.left i (pred_ℤ y) u) (w.left i y u))
      go (right u) = outer 0 y i d (off_right L 0 y i d (at_last i u)) ∙ none d (level g y i) (both (g i (pred_ℤ y)) (g i y) (w.right i (pred_ℤ y) u) (w.right i y u))

  pub upright_listed : (x j : ℤ) (d : Bool) → passing 1 x j d (result L g) ≡ goes d (upright g x j)
  unfolding upright
  upright_listed x j d = go (spot L x j)
    where
      go : Spot L x j → passing 1 x j d (result L g) ≡ goes d (upright g x j)
      go (inner m n u v p q) =
          rw (p, q) (ap (passing 1 (step L m) (step L n) d) (result_view L g w) ∙ passing_view L 1 m n d (result_n (2 * L) (view L g))
          ∙ upright_passing (2 * L) (view L g) m n d u v ∙ ap (goes d) (sym (upright_view L g w m n)))
      go (under u h) =
          outer 1 x j d (off_place L 1 x j d h)
          ∙ none d (upright g x j) (both (g x j) (g (pred_ℤ x) j) (w.left x j u) (w.left (pred_ℤ x) j (pred_lt x (neg_ℤ (pos L)) u)))
      go (over u h) =
          outer 1 x j d (off_place L 1 x j d h)
          ∙ none d (upright g x j) (both (g x j) (g (pred_ℤ x) j) (w.right x j (lt_le (pos L) x u)) (w.right (pred_ℤ x) j (lt_pred L x u)))
      go (left u) = outer 1 x j d (off_left L 1 x j d (at_first j u)) ∙ none d (upright g x j) (both (g x j) (g (pred_ℤ x) j) (w.below x j u) (w.below (pred_ℤ x) j u))
      go (right u) = outer 1 x j d (off_right L 1 x j d (at_last j u)) ∙ none d (upright g x j) (both (g x j) (g (pred_ℤ x) j) (w.above x j u) (w.above (pred_ℤ x) j u))
