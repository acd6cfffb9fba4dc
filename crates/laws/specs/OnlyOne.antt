-- There is one list: records in order that list the same pieces are the same records. Each record is laid out as a stretch of one long line
-- (kinds one after the other, their lines one after the other), where the uniqueness of a line decides. Assumes nothing.
--
--   InRange L r     the record's place and ends are coordinates
--   only_one        ONE LIST: in order, in range and with the same pieces, so the same list
--   result_in_range the result is in range
--   one_result      THE RESULT IS THE ONE: a list in order, in range, that lists a piece exactly when its side cells differ
use Rattle.std.specs.Prelude.{◌≡◌, ◌≢◌, Bool, not, ◌||◌, ℕ, zero, suc, ◌+◌, ◌*◌, ◌/◌, ◌%◌, ◌≤◌, ◌<◌, ℤ}
use Rattle.std.proofs.Math.Path.{refl, ap₂}
use Rattle.std.proofs.Common.{sym, ap, ◌∙◌, subst, true≢false, arith, div-add-mod', mod-lt, mul-le-mul_right, zero-add}
use Rattle.std.proofs.Math.Bool.{true, false, ◌&&◌}
use Rattle.std.proofs.lemmas.Bool.{false≢true}
use mathlib.Core.List.{List, [], ◌∷◌, map}
use Rattle.std.proofs.Math.Decide.{dec_lt, ℕ_discrete}
use Rattle.std.proofs.Math.Dec.{eqb, ltb}
use Rattle.std.specs.Int.Signed.{lt_z}
use borrow.Author.Tests.{eq-eqb, ne_eqb, ltb-true, ltb-false, eqb-true}
use Rattle.meaning.specs.Numbers.{bit, pick, in_range, step}
use Rattle.meaning.specs.Edges.{number}
use Rattle.meaning.specs.Cells.{Dir, off, fwd, bwd, goes, level, upright, Within}
use Rattle.meaning.specs.Records.{Run, run, same_dir, Record, rec, kind_of, result, passes, lesser, greater, same, before, passing, Ahead, InOrder}
use Rattle.basic_laws.specs.Tests.{and_left, and_right, and_off, and_on, leb_same, spans, spans_below, spans_above, spans_empty}
use Rattle.basic_laws.specs.Lists.{All, all_map, all_append, all_to_map, number_none}
use Rattle.basic_laws.specs.Steps.{lift, step_lt, step_eq, step_range, step_lift, lift_le, lowered}
use Rattle.grid_laws.specs.OneLine.{Good, dir_at, unique, fwd≢off, bwd≢off}
use Rattle.grid_laws.specs.Plane.{result_n}
use Rattle.basic_laws.specs.Sums.{sum_of}
use Rattle.grid_laws.specs.Pieces.{passes_n, passing_n}
use Rattle.laws.specs.View.{view, result_view}
use Rattle.laws.specs.Listed.{Inner, result_inner, passing_view, level_listed, upright_listed}
use Rattle.laws.specs.Ordered.{From, lines_from, result_in_order}

-- ---- two numbers in one: rows of m

above_row : (n k m : ℕ) → n < k → n * m + m ≤ k * m
above_row n k m h = let z : suc n * m ≤ k * m = mul-le-mul_right m h in omega arith

same_row : (m n k a b : ℕ) → a < m → b < m → n * m + a ≡ k * m + b → (n ≡ k) × (a ≡ b)
same_row m n k a b u v e = go (dec_lt n k) (dec_lt k n)
  where
    go : Dec (n < k) → Dec (k < n) → (n ≡ k) × (a ≡ b)
    go (yes p) q = absurd (omega (arith, above_row n k m p))
    go (no p) (yes q) = absurd (omega (arith, above_row k n m q))
    go (no p) (no q) = let z : n ≡ k = omega arith in (z, omega (arith, ap (λ (x : ℕ). x * m) z))

-- ---- how many runs of a direction have a piece

abbrev hits : ℕ → Dir → Run → Bool
hits x d (run l h e) = spans l h x && same_dir e d

abbrev dir_of : ℕ → ℕ → Dir
dir_of zero zero = off
dir_of zero (suc m) = bwd
dir_of (suc n) m = fwd

hits_below : (a : ℕ) (c : Dir) (rs : List Run) (x : ℕ) (d : Dir) → Good a c rs → x < a → number (hits x d) rs ≡ 0
unfolding number
hits_below a c [] x d g p = refl
hits_below a c (run l h e ∷ rs) x d g p = rw (spans_below l h x (omega (arith, g.0))) (omega (arith, hits_below h e rs x d g.4 (omega (arith, g.0, g.1))))

good_dir : (a : ℕ) (c : Dir) (rs : List Run) (x : ℕ) → Good a c rs → dir_at rs x ≡ dir_of (number (hits x fwd) rs) (number (hits x bwd) rs)
unfolding number dir_at
good_dir a c [] x g = refl
good_dir a c (run l h e ∷ rs) x g = go (spans l h x) refl e refl (good_dir h e rs x g.4)
  where
    hit : (t : Bool) → spans l h x ≡ t → t ≡ true → x < h
    hit t p q = below (dec_lt x h)
      where
        below : Dec (x < h) → x < h
        below (yes u) = u
        below (no u) = absurd (false≢true (sym (spans_above l h x (omega arith)) ∙ p ∙ q))

    go : (t : Bool) → spans l h x ≡ t → (e' : Dir) → e ≡ e' → dir_at rs x ≡ dir_of (number (hits x fwd) rs) (number (hits x bwd) rs) → pick (spans l h x) e (dir_at rs x) ≡ dir_of (bit (spans l h x && same_dir e fwd) + number (hits x fwd) rs) (bit (spans l h x && same_dir e bwd) + number (hits x bwd) rs)
    go true p off q ih = absurd (g.2 q)
    go true p fwd q ih = rw (p, q, hits_below h e rs x fwd g.4 (hit true p refl))
    go true p bwd q ih = rw (p, q, hits_below h e rs x fwd g.4 (hit true p refl), hits_below h e rs x bwd g.4 (hit true p refl))
    go false p e' q ih = rw (p, zero-add, zero-add) ih

-- ---- the long line

module _ (L : ℕ) where
  abbrev wide : ℕ
  wide = 2 * L + 2

  abbrev line_no : ℕ → ℕ → ℕ
  line_no kind p = kind * (2 * L + 1) + p

  abbrev low : ℕ → ℕ → ℕ
  low f t = pick (ltb f t) f t

  abbrev high : ℕ → ℕ → ℕ
  high f t = pick (ltb f t) t f

  abbrev way : ℕ → ℕ → Dir
  way f t = pick (ltb f t) fwd bwd

  abbrev linear : Record ℕ → Run
  linear (rec kind p f t) = run (line_no kind p * wide + low f t) (line_no kind p * wide + high f t) (way f t)

  -- a stretch seen from its own line, and from another
  own : (b f t k : ℕ) → spans (b + f) (b + t) (b + k) ≡ spans f t k
  unfolding spans
  own b f t k = ap₂ ◌&&◌ (leb_same (b + f) (b + k) f k (λ h. omega arith) (λ h. omega arith)) (leb_same (suc (b + k)) (b + t) (suc k) t (λ h. omega arith) (λ h. omega arith))

  other : (n m f t k : ℕ) → n ≢ m → f ≤ 2 * L → t ≤ 2 * L → k < wide → spans (n * wide + f) (n * wide + t) (m * wide + k) ≡ false
  other n m f t k ne hf ht hk = go (dec_lt n m)
    where
      go : Dec (n < m) → spans (n * wide + f) (n * wide + t) (m * wide + k) ≡ false
      go (yes u) = spans_above (n * wide + f) (n * wide + t) (m * wide + k) (omega (arith, above_row n m wide u))
      go (no u) = spans_below (n * wide + f) (n * wide + t) (m * wide + k) (omega (arith, above_row m n wide (omega arith)))

  line_same : (kd p kind q : ℕ) → p ≤ 2 * L → q ≤ 2 * L → line_no kd p ≡ line_no kind q → (kd ≡ kind) × (p ≡ q)
  line_same kd p kind q u v e = same_row (2 * L + 1) kd kind p q (omega arith) (omega arith) e

  -- one record: its run has a piece exactly when the record passes it
  module _ (kind p k : ℕ) (hp : p ≤ 2 * L) (hk : k < wide) where
    abbrev x : ℕ
    x = line_no kind p * wide + k

    stretch : (kd pl f t : ℕ) → pl ≤ 2 * L → f ≤ 2 * L → t ≤ 2 * L → spans (line_no kd pl * wide + f) (line_no kd pl * wide + t) x ≡ ((eqb kd kind && eqb pl p) && spans f t k)
    stretch kd pl f t hl hf ht = go (ℕ_discrete kd kind) (ℕ_discrete pl p)
      where
        go : Dec (kd ≡ kind) → Dec (pl ≡ p) → spans (line_no kd pl * wide + f) (line_no kd pl * wide + t) x ≡ ((eqb kd kind && eqb pl p) && spans f t k)
        go (yes a) (yes b) = rw (a, b, eq-eqb kind kind refl, eq-eqb p p refl) (own (line_no kind p * wide) f t k)
        go (yes a) (no b) =
            other (line_no kd pl) (line_no kind p) f t k (λ e. b (line_same kd pl kind p hl hp e).1) hf ht hk
            ∙ sym (rw (ne_eqb pl p b, and_off (eqb kd kind)))
        go (no a) c =
            other (line_no kd pl) (line_no kind p) f t k (λ e. a (line_same kd pl kind p hl hp e).0) hf ht hk
            ∙ sym (rw (ne_eqb kd kind a))

    hits_fwd : (r : Record ℕ) → Inner (2 * L) r → hits x fwd (linear r) ≡ passes_n kind p k true r
    unfolding passes_n
    hits_fwd (rec kd pl f t) b = go (ltb f t) refl
      where
        go : (c : Bool) → ltb f t ≡ c → hits x fwd (linear (rec kd pl f t)) ≡ ((eqb kd kind && eqb pl p) && spans f t k)
        go true e = rw (e, and_on (spans (line_no kd pl * wide + f) (line_no kd pl * wide + t) x)) (stretch kd pl f t b.0 b.1 b.2)
        go false e =
            rw (e, and_off (spans (line_no kd pl * wide + t) (line_no kd pl * wide + f) x), spans_empty f t k (ltb-false f t e), and_off (eqb kd kind && eqb pl p))

    hits_bwd : (r : Record ℕ) → Inner (2 * L) r → hits x bwd (linear r) ≡ passes_n kind p k false r
    unfolding passes_n
    hits_bwd (rec kd pl f t) b = go (ltb f t) refl
      where
        go : (c : Bool) → ltb f t ≡ c → hits x bwd (linear (rec kd pl f t)) ≡ ((eqb kd kind && eqb pl p) && spans t f k)
        go true e =
            let l : f < t = ltb-true f t e in
            rw (e, and_off (spans (line_no kd pl * wide + f) (line_no kd pl * wide + t) x), spans_empty t f k (omega arith), and_off (eqb kd kind && eqb pl p))
        go false e = rw (e, and_on (spans (line_no kd pl * wide + t) (line_no kd pl * wide + f) x)) (stretch kd pl t f b.0 b.2 b.1)

    hits_are : (rs : List (Record ℕ)) → All (Inner (2 * L)) rs → (number (hits x fwd) (map linear rs) ≡ passing_n kind p k true rs) × (number (hits x bwd) (map linear rs) ≡ passing_n kind p k false rs)
    unfolding number passing_n sum_of
    hits_are [] a = (refl, refl)
    hits_are (r ∷ rs) a =
        let i = hits_are rs a.1 in (
          ap₂ (λ (b : Bool) (n : ℕ). bit b + n) (hits_fwd r a.0) i.0,
          ap₂ (λ (b : Bool) (n : ℕ). bit b + n) (hits_bwd r a.0) i.1,
        )

  -- ---- records in order make a good line

  pick_step : (b : Bool) (f t : ℕ) → pick b (step L f) (step L t) ≡ step L (pick b f t)
  pick_step true f t = refl
  pick_step false f t = refl

  low_step : (f t : ℕ) → pick (lt_z (step L f) (step L t)) (step L f) (step L t) ≡ step L (low f t)
  low_step f t = rw (step_lt L f t) (pick_step (ltb f t) f t)

  high_step : (f t : ℕ) → pick (lt_z (step L f) (step L t)) (step L t) (step L f) ≡ step L (high f t)
  high_step f t = rw (step_lt L f t) (pick_step (ltb f t) t f)

  proper : (kd p f t : ℕ) → lt_z (lesser (lowered L (rec kd p f t))) (greater (lowered L (rec kd p f t))) ≡ true → low f t < high f t
  proper kd p f t h = ltb-true (low f t) (high f t) (sym (step_lt L (low f t) (high f t)) ∙ ap₂ lt_z (sym (low_step f t)) (sym (high_step f t)) ∙ h)

  abbrev apart_n : ℕ → ℕ → ℕ → ℕ → Bool
  apart_n f t u v = ltb (high f t) (low u v) || (eqb (high f t) (low u v) && not (same (ltb f t) (ltb u v)))

  before_steps : (kd p f t ke q u v : ℕ) → before (lowered L (rec kd p f t)) (lowered L (rec ke q u v)) ≡ (ltb kd ke || (eqb kd ke && (ltb p q || (eqb p q && apart_n f t u v))))
  unfolding before
  before_steps kd p f t ke q u v =
      rw (high_step f t, low_step u v, step_lt L p q, step_eq L p q, step_lt L (high f t) (low u v), step_eq L (high f t) (low u v), step_lt L f t, step_lt L u v)

  turns : (b c : Bool) → not (same b c) ≡ true → pick c fwd bwd ≢ pick b fwd bwd
  turns true true h e = false≢true h
  turns true false h e = let z : true ≡ false = ap (same_dir bwd) e in true≢false z
  turns false true h e = let z : true ≡ false = ap (same_dir fwd) e in true≢false z
  turns false false h e = false≢true h

  -- what follows a record on the long line
  abbrev Next : Record ℕ → Record ℕ → Type 0
  Next (rec kd p f t) (rec ke q u v) =
      (line_no kd p * wide + high f t ≤ line_no ke q * wide + low u v)
      × (line_no ke q * wide + low u v ≡ line_no kd p * wide + high f t → way u v ≢ way f t)

  end_le : (c : Bool) (f t : ℕ) → f ≤ 2 * L → t ≤ 2 * L → pick c f t ≤ 2 * L
  end_le true f t a b = a
  end_le false f t a b = b

  low_le : (f t : ℕ) → f ≤ 2 * L → t ≤ 2 * L → low f t ≤ 2 * L
  low_le f t a b = end_le (ltb f t) f t a b

  high_le : (f t : ℕ) → f ≤ 2 * L → t ≤ 2 * L → high f t ≤ 2 * L
  high_le f t a b = end_le (ltb f t) t f b a

  next_line : (kd p f t ke q u v : ℕ) → Inner (2 * L) (rec kd p f t) → line_no kd p < line_no ke q → Next (rec kd p f t) (rec ke q u v)
  next_line kd p f t ke q u v a l =
      let h = above_row (line_no kd p) (line_no ke q) wide l in
      let g = high_le f t a.1 a.2 in
      (omega arith, λ e. absurd (omega arith))

  next_kind : (kd ke p q : ℕ) → kd < ke → p ≤ 2 * L → line_no kd p < line_no ke q
  next_kind kd ke p q l h = let z = above_row kd ke (2 * L + 1) l in omega arith

  next_apart : (kd p f t u v : ℕ) → apart_n f t u v ≡ true → Next (rec kd p f t) (rec kd p u v)
  next_apart kd p f t u v h = go (ltb (high f t) (low u v)) refl h
    where
      go : (c : Bool) → ltb (high f t) (low u v) ≡ c → (c || (eqb (high f t) (low u v) && not (same (ltb f t) (ltb u v)))) ≡ true → Next (rec kd p f t) (rec kd p u v)
      go true e z = let l = ltb-true (high f t) (low u v) e in (omega arith, λ q. absurd (omega arith))
      go false e z =
          let l : high f t ≡ low u v = eqb-true (high f t) (low u v) (and_left (eqb (high f t) (low u v)) (not (same (ltb f t) (ltb u v))) z) in
          (omega arith, λ q. turns (ltb f t) (ltb u v) (and_right (eqb (high f t) (low u v)) (not (same (ltb f t) (ltb u v))) z))

  next_ok : (r s : Record ℕ) → Inner (2 * L) r → before (lowered L r) (lowered L s) ≡ true → Next r s
  next_ok (rec kd p f t) (rec ke q u v) a h = go (ltb kd ke) (eqb kd ke) (ltb p q) (eqb p q) refl refl refl refl (sym (before_steps kd p f t ke q u v) ∙ h)
    where
      go : (b c d e : Bool) → ltb kd ke ≡ b → eqb kd ke ≡ c → ltb p q ≡ d → eqb p q ≡ e → (b || (c && (d || (e && apart_n f t u v)))) ≡ true → Next (rec kd p f t) (rec ke q u v)
      go true c d e w x y z k = next_line kd p f t ke q u v a (next_kind kd ke p q (ltb-true kd ke w) a.0)
      go false false d e w x y z k = absurd (false≢true k)
      go false true true e w x y z k =
          let m : kd ≡ ke = eqb-true kd ke x in
          next_line kd p f t ke q u v a (omega (arith, ap (λ (n : ℕ). n * (2 * L + 1)) m, ltb-true p q y))
      go false true false false w x y z k = absurd (false≢true k)
      go false true false true w x y z k = rw (← (eqb-true kd ke x), ← (eqb-true p q z)) (next_apart kd p f t u v k)

  way_some : (f t : ℕ) → way f t ≢ off
  way_some f t = go (ltb f t)
    where
      go : (b : Bool) → pick b fwd bwd ≢ off
      go true = fwd≢off
      go false = bwd≢off

  -- the first run may start where the one before it ended
  abbrev Starts : ℕ → Dir → List (Record ℕ) → Type 0
  Starts a d [] = Unit {0}
  Starts a d (rec kind p f t ∷ rs) = (a ≤ line_no kind p * wide + low f t) × (line_no kind p * wide + low f t ≡ a → way f t ≢ d)

  starts_next : (r : Record ℕ) (rs : List (Record ℕ)) → Inner (2 * L) r → Ahead (lowered L r) (map (lowered L) rs) → (a : ℕ) (d : Dir) (l : ℕ) → linear r ≡ run l a d → Starts a d rs
  starts_next (rec kd p f t) [] i h a d l e = tt
  starts_next (rec kd p f t) (rec ke q u v ∷ rs) i h a d l e =
      let n = next_ok (rec kd p f t) (rec ke q u v) i h in
      let x : line_no kd p * wide + high f t ≡ a = cc in
      let y : way f t ≡ d = cc in
      (omega (arith, n.0), λ z m. n.1 (omega arith) (m ∙ sym y))

  good_linear : (a : ℕ) (d : Dir) (rs : List (Record ℕ)) → Starts a d rs → InOrder (map (lowered L) rs) → All (Inner (2 * L)) rs → Good a d (map linear rs)
  good_linear a d [] s o i = tt
  good_linear a d (rec kd p f t ∷ rs) s o i =
      let l = proper kd p f t o.0 in (
        s.0,
        omega arith,
        way_some f t,
        s.1,
        good_linear (line_no kd p * wide + high f t) (way f t) rs (starts_next (rec kd p f t) rs i.0 o.1 (line_no kd p * wide + high f t) (way f t) (line_no kd p * wide + low f t) refl) o.2 i.1,
      )

  start_any : (rs : List (Record ℕ)) → Starts 0 off rs
  start_any [] = tt
  start_any (rec kind p f t ∷ rs) = (omega arith, λ e. way_some f t)

  -- ---- the long line tells the record

  ways_same : (f t u v : ℕ) → way f t ≡ way u v → ltb f t ≡ ltb u v
  ways_same f t u v e = go (ltb f t) (ltb u v) e
    where
      go : (b c : Bool) → pick b fwd bwd ≡ pick c fwd bwd → b ≡ c
      go true true e = refl
      go true false e = let z : true ≡ false = ap (same_dir fwd) e in z
      go false true e = let z : true ≡ false = ap (same_dir bwd) e in sym z
      go false false e = refl

  pick_same : (b : Bool) (f t u v : ℕ) → pick b f t ≡ pick b u v → pick b t f ≡ pick b v u → (f ≡ u) × (t ≡ v)
  pick_same true f t u v x y = (x, y)
  pick_same false f t u v x y = (y, x)

  linear_inj : (r s : Record ℕ) → Inner (2 * L) r → Inner (2 * L) s → linear r ≡ linear s → r ≡ s
  linear_inj (rec kd p f t) (rec ke q u v) a b e =
      let x : line_no kd p * wide + low f t ≡ line_no ke q * wide + low u v = cc in
      let y : line_no kd p * wide + high f t ≡ line_no ke q * wide + high u v = cc in
      let w : way f t ≡ way u v = cc in
      let m = same_row wide (line_no kd p) (line_no ke q) (low f t) (low u v) (omega (arith, low_le f t a.1 a.2)) (omega (arith, low_le u v b.1 b.2)) x in
      let n = same_row wide (line_no kd p) (line_no ke q) (high f t) (high u v) (omega (arith, high_le f t a.1 a.2)) (omega (arith, high_le u v b.1 b.2)) y in
      let l = line_same kd p ke q a.0 b.0 m.0 in
      let c : ltb f t ≡ ltb u v = ways_same f t u v w in
      let k = pick_same (ltb f t) f t u v (rw (← c) at m.1) (rw (← c) at n.1) in
      cc (l.0, l.1, k.0, k.1)

  lines_inj : (rs ss : List (Record ℕ)) → All (Inner (2 * L)) rs → All (Inner (2 * L)) ss → map linear rs ≡ map linear ss → rs ≡ ss
  lines_inj [] [] a b e = refl
  lines_inj [] (s ∷ ss) a b e = let z : ◌≡◌ {A = ℕ} 0 1 = cc in absurd (omega arith)
  lines_inj (r ∷ rs) [] a b e = let z : ◌≡◌ {A = ℕ} 0 1 = cc in absurd (omega arith)
  lines_inj (r ∷ rs) (s ∷ ss) a b e =
      let x : linear r ≡ linear s = cc in
      let y : map linear rs ≡ map linear ss = cc in
      cc (linear_inj r s a.0 b.0 x, lines_inj rs ss a.1 b.1 y)

  -- ---- one list

  same_passing : (rs ss : List (Record ℕ)) → All (Inner (2 * L)) rs → All (Inner (2 * L)) ss
      → ((kind p k : ℕ) (d : Bool) → passing_n kind p k d rs ≡ passing_n kind p k d ss)
      → InOrder (map (lowered L) rs) → InOrder (map (lowered L) ss) → rs ≡ ss
  same_passing rs ss a b h o u =
      lines_inj rs ss a b
      (unique 0 off (map linear rs) (map linear ss) (good_linear 0 off rs (start_any rs) o a) (good_linear 0 off ss (start_any ss) u b) piece)
    where
      at : (m k : ℕ) → k < wide → dir_at (map linear rs) (m * wide + k) ≡ dir_at (map linear ss) (m * wide + k)
      at m k l =
          let q : line_no (m / (2 * L + 1)) (m % (2 * L + 1)) ≡ m = div-add-mod' m (2 * L + 1) in
          let c : m % (2 * L + 1) < 2 * L + 1 = mod-lt m (omega arith) in
          let x = hits_are (m / (2 * L + 1)) (m % (2 * L + 1)) k (omega arith) l rs a in
          let y = hits_are (m / (2 * L + 1)) (m % (2 * L + 1)) k (omega arith) l ss b in
          let z : line_no (m / (2 * L + 1)) (m % (2 * L + 1)) * wide + k ≡ m * wide + k = ap (λ (n : ℕ). n * wide + k) q in
          let f : number (hits (line_no (m / (2 * L + 1)) (m % (2 * L + 1)) * wide + k) fwd) (map linear rs) ≡ number (hits (line_no (m / (2 * L + 1)) (m % (2 * L + 1)) * wide + k) fwd) (map linear ss) = x.0 ∙ h (m / (2 * L + 1)) (m % (2 * L + 1)) k true ∙ sym y.0 in
          let g : number (hits (line_no (m / (2 * L + 1)) (m % (2 * L + 1)) * wide + k) bwd) (map linear rs) ≡ number (hits (line_no (m / (2 * L + 1)) (m % (2 * L + 1)) * wide + k) bwd) (map linear ss) = x.1 ∙ h (m / (2 * L + 1)) (m % (2 * L + 1)) k false ∙ sym y.1 in
          ap (dir_at (map linear rs)) (sym z)
          ∙ good_dir 0 off (map linear rs) (line_no (m / (2 * L + 1)) (m % (2 * L + 1)) * wide + k) (good_linear 0 off rs (start_any rs) o a)
          ∙ ap₂ dir_of f g
          ∙ sym (good_dir 0 off (map linear ss) (line_no (m / (2 * L + 1)) (m % (2 * L + 1)) * wide + k) (good_linear 0 off ss (start_any ss) u b))
          ∙ ap (dir_at (map linear ss)) z

      piece : (x : ℕ) → dir_at (map linear rs) x ≡ dir_at (map linear ss) x
      piece x =
          let e : x / wide * wide + x % wide ≡ x = div-add-mod' x wide in
          ap (dir_at (map linear rs)) (sym e) ∙ at (x / wide) (x % wide) (mod-lt x (omega arith)) ∙ ap (dir_at (map linear ss)) e

-- ---- over whole numbers

abbrev pub InRange : ℕ → Record ℤ → Type 0
InRange L (rec kind p f t) = (in_range L p ≡ true) × (in_range L f ≡ true) × (in_range L t ≡ true)

abbrev lifted : ℕ → Record ℤ → Record ℕ
lifted L (rec kind p f t) = rec kind (lift L p) (lift L f) (lift L t)

lower_lift : (L : ℕ) (rs : List (Record ℤ)) → All (InRange L) rs → map (lowered L) (map (lifted L) rs) ≡ rs
lower_lift L [] a = refl
lower_lift L (rec kind p f t ∷ rs) a =
    let b = a.0 in
    ap₂ (λ (r : Record ℤ) (q : List (Record ℤ)). r ∷ q) (rw (step_lift L p b.0, step_lift L f b.1, step_lift L t b.2)) (lower_lift L rs a.1)

inner_lift : (L : ℕ) (rs : List (Record ℤ)) → All (InRange L) rs → All (Inner (2 * L)) (map (lifted L) rs)
inner_lift L [] a = tt
inner_lift L (rec kind p f t ∷ rs) a = let b = a.0 in ((lift_le L p b.0, lift_le L f b.1, lift_le L t b.2), inner_lift L rs a.1)

pub only_one : (L : ℕ) (rs ss : List (Record ℤ)) → InOrder rs → InOrder ss → All (InRange L) rs → All (InRange L) ss
    → ((kind : ℕ) (p k : ℤ) (d : Bool) → passing kind p k d rs ≡ passing kind p k d ss) → rs ≡ ss
only_one L rs ss o u a b h =
    let x = lower_lift L rs a in
    let y = lower_lift L ss b in
    let e : map (lifted L) rs ≡ map (lifted L) ss =
    same_passing L (map (lifted L) rs) (map (lifted L) ss) (inner_lift L rs a) (inner_lift L ss b)
    (λ kind p k d.
    sym (passing_view L kind p k d (map (lifted L) rs)) ∙ ap (passing kind (step L p) (step L k) d) x ∙ h kind (step L p) (step L k) d
    ∙ ap (passing kind (step L p) (step L k) d) (sym y) ∙ passing_view L kind p k d (map (lifted L) ss))
    (subst InOrder (sym x) o) (subst InOrder (sym y) u) in
    sym x ∙ ap (map (lowered L)) e ∙ y

-- ---- the result is the one

abbrev pub AKind : Record ℤ → Type 0
AKind (rec kind p f t) = kind ≤ 1

result_kinds : (L : ℕ) (g : ℤ → ℤ → Bool) → All AKind (result L g)
unfolding result kind_of
result_kinds L g =
    all_append AKind (kind_of L 0 (level g)) (kind_of L 1 (upright g))
    (all_map (From L 0 0) AKind (kind_of L 0 (level g)) (λ r h. kind_known 0 r (omega arith) h) (lines_from L 0 (λ p k. level g (step L p) (step L k)) (2 * L) 0 (suc (2 * L))))
    (all_map (From L 1 0) AKind (kind_of L 1 (upright g)) (λ r h. kind_known 1 r (omega arith) h) (lines_from L 1 (λ p k. upright g (step L p) (step L k)) (2 * L) 0 (suc (2 * L))))
  where
    kind_known : (kind : ℕ) (r : Record ℤ) → kind ≤ 1 → From L kind 0 r → AKind r
    kind_known kind (rec kd p f t) l h = omega (arith, h.0)

pub result_in_range : (L : ℕ) (g : ℤ → ℤ → Bool) → Within L g → All (InRange L) (result L g)
result_in_range L g w =
    subst (All (InRange L)) (sym (result_view L g w))
    (all_to_map (InRange L) (lowered L) (result_n (2 * L) (view L g)) (all_map (Inner (2 * L)) (λ r. InRange L (lowered L r)) (result_n (2 * L) (view L g)) one (result_inner (2 * L) (view L g))))
  where
    one : (r : Record ℕ) → Inner (2 * L) r → InRange L (lowered L r)
    one (rec kind p f t) h = (step_range L p h.0, step_range L f h.1, step_range L t h.2)

-- a kind that no record has
no_kind : (kind : ℕ) (p k : ℤ) (d : Bool) (rs : List (Record ℤ)) → 1 < kind → All AKind rs → passing kind p k d rs ≡ 0
unfolding passing passes
no_kind kind p k d rs l a = number_none (passes kind p k d) rs (all_map AKind (λ r. passes kind p k d r ≡ false) rs (one d) a)
  where
    one : (d : Bool) (r : Record ℤ) → AKind r → passes kind p k d r ≡ false
    one true (rec kd pl f t) h = rw (ne_eqb kd kind (λ e. omega arith))
    one false (rec kd pl f t) h = rw (ne_eqb kd kind (λ e. omega arith))

pub one_result : (L : ℕ) (g : ℤ → ℤ → Bool) → Within L g → (rs : List (Record ℤ)) → InOrder rs → All (InRange L) rs → All AKind rs
    → ((y i : ℤ) (d : Bool) → passing 0 y i d rs ≡ goes d (level g y i)) → ((x j : ℤ) (d : Bool) → passing 1 x j d rs ≡ goes d (upright g x j)) → rs ≡ result L g
one_result L g w rs o a k h v = only_one L rs (result L g) o (result_in_order L g) a (result_in_range L g w) piece
  where
    piece : (kind : ℕ) (p q : ℤ) (d : Bool) → passing kind p q d rs ≡ passing kind p q d (result L g)
    piece zero p q d = h p q d ∙ sym (level_listed L g w p q d)
    piece (suc zero) p q d = v p q d ∙ sym (upright_listed L g w p q d)
    piece (suc (suc n)) p q d = no_kind (suc (suc n)) p q d rs (omega arith) k ∙ sym (no_kind (suc (suc n)) p q d (result L g) (omega arith) (result_kinds L g))
