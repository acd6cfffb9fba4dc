-- The result stands in its order: by kind, place and lesser end, apart, each record as long as can be. Assumes nothing.
--
--   result_in_order   IN ORDER: result L g is InOrder, for every set of cells g
--   append_order      lists in order, one before the other
use Rattle.std.specs.Prelude.{◌≡◌, refl, ◌≢◌, Bool, true, false, List, [], ◌∷◌, ◌++◌, map, ltb, ℤ}
use Rattle.std.proofs.Common.{sym, ap, ◌∙◌, arith, lt-ltb, le-ltb, eq-eqb}
use Prim.Native.Nat.{ℕ, zero, suc, ◌*◌, ◌≤◌, ◌<◌}
use Rattle.std.proofs.Math.Decide.{dec_lt}
use Rattle.std.specs.Int.Signed.{lt_z}
use Rattle.meaning.specs.Numbers.{eq_z, step}
use Rattle.meaning.specs.Cells.{Dir, off, fwd, bwd, level, upright}
use Rattle.meaning.specs.Records.{Run, run, line, Record, rec, record_of, each, kind_of, result, lesser, greater, forward, same, apart, before, Ahead, InOrder}
use Rattle.basic_laws.specs.Tests.{or_true}
use Rattle.basic_laws.specs.Lists.{All, all_map, all_append}
use Rattle.basic_laws.specs.Signed.{eq_z_yes, eq_z_refl}
use Rattle.basic_laws.specs.Steps.{step_lt}
use Rattle.grid_laws.specs.OneLine.{Good, line_good}

-- ---- lists in order, one before the other

ahead_append : (Q : Record ℤ → Type 0) (r : Record ℤ) (ys : List (Record ℤ)) → All Q ys → ((s : Record ℤ) → Q s → before r s ≡ true) → Ahead r ys
ahead_append Q r [] q h = tt
ahead_append Q r (s ∷ ys) q h = h s q.0

pub append_order : (P Q : Record ℤ → Type 0) (xs ys : List (Record ℤ)) → InOrder xs → InOrder ys → All P xs → All Q ys
    → ((r s : Record ℤ) → P r → Q s → before r s ≡ true) → InOrder (xs ++ ys)
append_order P Q [] ys o u p q h = u
append_order P Q (r ∷ []) ys o u p q h = (o.0, ahead_append Q r ys q (λ s z. h r s p.0 z), u)
append_order P Q (r ∷ s ∷ xs) ys o u p q h = (o.0, o.1, append_order P Q (s ∷ xs) ys o.2 u p.1 q h)

-- ---- one line

up : (L l h : ℕ) → l < h → lt_z (step L l) (step L h) ≡ true
up L l h p = step_lt L l h ∙ lt-ltb l h p

down : (L l h : ℕ) → h ≤ l → lt_z (step L l) (step L h) ≡ false
down L l h p = step_lt L l h ∙ le-ltb l h p

-- a record by its lesser end, its greater end and its direction
record Shape (r : Record ℤ) (a b : ℤ) (d : Bool) : Type 0 where
  low : lesser r ≡ a
  high : greater r ≡ b
  way : forward r ≡ d

abbrev ahead : Dir → Bool
ahead off = false
ahead fwd = true
ahead bwd = false

shape : (L kind p l h : ℕ) (d : Dir) → l < h → d ≢ off → Shape (record_of (step L) kind (step L p) (run l h d)) (step L l) (step L h) (ahead d)
shape L kind p l h off u n = absurd (n refl)
shape L kind p l h fwd u n = record { low = rw (up L l h u); high = rw (up L l h u); way = up L l h u }
shape L kind p l h bwd u n = record { low = rw (down L h l (omega arith)); high = rw (down L h l (omega arith)); way = down L h l (omega arith) }

apart_far : (r s : Record ℤ) (a b c e : ℤ) (d w : Bool) → Shape r a b d → Shape s c e w → lt_z b c ≡ true → apart r s ≡ true
apart_far r s a b c e d w x y h = rw (x.high, y.low, h)

apart_turn : (r s : Record ℤ) (a b c e : ℤ) (d w : Bool) → Shape r a b d → Shape s c e w → eq_z b c ≡ true → same d w ≡ false → apart r s ≡ true
apart_turn r s a b c e d w x y h k = rw (x.high, y.low, x.way, y.way, h, k) (or_true (lt_z b c))

differ : (d e : Dir) → d ≢ off → e ≢ off → e ≢ d → same (ahead d) (ahead e) ≡ false
differ off e n m k = absurd (n refl)
differ fwd off n m k = absurd (m refl)
differ fwd fwd n m k = absurd (k refl)
differ fwd bwd n m k = refl
differ bwd off n m k = absurd (m refl)
differ bwd fwd n m k = refl
differ bwd bwd n m k = absurd (k refl)

same_line : (L kind p l h : ℕ) (d : Dir) (l' h' : ℕ) (e : Dir) → l < h → d ≢ off → Good h d (run l' h' e ∷ [])
    → apart (record_of (step L) kind (step L p) (run l h d)) (record_of (step L) kind (step L p) (run l' h' e)) ≡ true
same_line L kind p l h d l' h' e u n g = go (dec_lt h l')
  where
    go : Dec (h < l') → apart (record_of (step L) kind (step L p) (run l h d)) (record_of (step L) kind (step L p) (run l' h' e)) ≡ true
    go (yes v) = apart_far _ _ (step L l) (step L h) (step L l') (step L h') (ahead d) (ahead e) (shape L kind p l h d u n) (shape L kind p l' h' e g.1 g.2) (up L h l' v)
    go (no v) =
        let q : l' ≡ h = omega (arith, g.0) in
        apart_turn _ _ (step L l) (step L h) (step L l') (step L h') (ahead d) (ahead e) (shape L kind p l h d u n) (shape L kind p l' h' e g.1 g.2)
        (eq_z_yes (step L h) (step L l') (ap (step L) (sym q))) (differ d e n g.2 (g.3 q))

-- two records of one line that lie apart
on_line : (kind : ℕ) (z f t u v : ℤ) → apart (rec kind z f t) (rec kind z u v) ≡ true → before (rec kind z f t) (rec kind z u v) ≡ true
unfolding before
on_line kind z f t u v h = rw (h, le-ltb kind kind (omega arith), eq-eqb kind kind refl, eq_z_refl z) (or_true (lt_z z z))

on_line_runs : (L kind p l h : ℕ) (d : Dir) (l' h' : ℕ) (e : Dir)
    → apart (record_of (step L) kind (step L p) (run l h d)) (record_of (step L) kind (step L p) (run l' h' e)) ≡ true
    → before (record_of (step L) kind (step L p) (run l h d)) (record_of (step L) kind (step L p) (run l' h' e)) ≡ true
on_line_runs L kind p l h off l' h' off a = on_line kind (step L p) _ _ _ _ a
on_line_runs L kind p l h off l' h' fwd a = on_line kind (step L p) _ _ _ _ a
on_line_runs L kind p l h off l' h' bwd a = on_line kind (step L p) _ _ _ _ a
on_line_runs L kind p l h fwd l' h' off a = on_line kind (step L p) _ _ _ _ a
on_line_runs L kind p l h fwd l' h' fwd a = on_line kind (step L p) _ _ _ _ a
on_line_runs L kind p l h fwd l' h' bwd a = on_line kind (step L p) _ _ _ _ a
on_line_runs L kind p l h bwd l' h' off a = on_line kind (step L p) _ _ _ _ a
on_line_runs L kind p l h bwd l' h' fwd a = on_line kind (step L p) _ _ _ _ a
on_line_runs L kind p l h bwd l' h' bwd a = on_line kind (step L p) _ _ _ _ a

proper : (L kind p l h : ℕ) (d : Dir) → l < h → d ≢ off → lt_z (lesser (record_of (step L) kind (step L p) (run l h d))) (greater (record_of (step L) kind (step L p) (run l h d))) ≡ true
proper L kind p l h d u n = let s = shape L kind p l h d u n in rw (s.low, s.high) (up L l h u)

line_in_order : (L kind p a : ℕ) (d : Dir) (rs : List Run) → Good a d rs → InOrder (map (record_of (step L) kind (step L p)) rs)
line_in_order L kind p a d [] g = tt
line_in_order L kind p a d (run l h e ∷ []) g = (proper L kind p l h e g.1 g.2, tt, tt)
line_in_order L kind p a d (run l h e ∷ run l' h' e' ∷ rs) g =
    let n = g.4 in (
      proper L kind p l h e g.1 g.2,
      on_line_runs L kind p l h e l' h' e' (same_line L kind p l h e l' h' e' g.1 g.2 (n.0, n.1, n.2, n.3, tt)),
      line_in_order L kind p h e (run l' h' e' ∷ rs) n,
    )

-- ---- lines and kinds

abbrev At : ℕ → ℤ → Record ℤ → Type 0
At kind z (rec kd p f t) = (kd ≡ kind) × (p ≡ z)

abbrev pub From : ℕ → ℕ → ℕ → Record ℤ → Type 0
From L kind a (rec kd p f t) = (kd ≡ kind) × ((n : ℕ) × (a ≤ n) × (p ≡ step L n))

line_at_is : (L kind p : ℕ) (rs : List Run) → All (At kind (step L p)) (map (record_of (step L) kind (step L p)) rs)
line_at_is L kind p [] = tt
line_at_is L kind p (run l h off ∷ rs) = ((refl, refl), line_at_is L kind p rs)
line_at_is L kind p (run l h fwd ∷ rs) = ((refl, refl), line_at_is L kind p rs)
line_at_is L kind p (run l h bwd ∷ rs) = ((refl, refl), line_at_is L kind p rs)

later_line : (L kind a : ℕ) (r s : Record ℤ) → At kind (step L a) r → From L kind (suc a) s → before r s ≡ true
unfolding before
later_line L kind a (rec kd p f t) (rec ke q u v) x y =
    rw (x.0, x.1, y.0, y.1.2, eq-eqb kind kind refl, up L a y.1.0 y.1.1) (or_true (ltb kind kind))

module _ (L kind : ℕ) (F : ℕ → ℕ → Dir) (N : ℕ) where
  abbrev one_line : ℕ → List (Record ℤ)
  one_line p = map (record_of (step L) kind (step L p)) (line (F p) 0 N)

  from_later : (a b : ℕ) → a ≤ b → (r : Record ℤ) → At kind (step L b) r → From L kind a r
  from_later a b l (rec kd p f t) x = (x.0, (b, l, x.1))

  from_from : (a : ℕ) (r : Record ℤ) → From L kind (suc a) r → From L kind a r
  from_from a (rec kd p f t) x = (x.0, (x.1.0, omega (arith, x.1.1), x.1.2))

  pub lines_from : (a n : ℕ) → All (From L kind a) (each one_line a n)
  unfolding each
  lines_from a zero = tt
  lines_from a (suc n) =
      all_append (From L kind a) (one_line a) (each one_line (suc a) n)
      (all_map (At kind (step L a)) (From L kind a) (one_line a) (from_later a a (omega arith)) (line_at_is L kind a (line (F a) 0 N)))
      (all_map (From L kind (suc a)) (From L kind a) (each one_line (suc a) n) (from_from a) (lines_from (suc a) n))

  pub lines_in_order : (a n : ℕ) → InOrder (each one_line a n)
  unfolding each
  lines_in_order a zero = tt
  lines_in_order a (suc n) =
      append_order (At kind (step L a)) (From L kind (suc a)) (one_line a) (each one_line (suc a) n)
      (line_in_order L kind a 0 off (line (F a) 0 N) (line_good (F a) 0 N)) (lines_in_order (suc a) n)
      (line_at_is L kind a (line (F a) 0 N)) (lines_from (suc a) n) (later_line L kind a)

later_kind : (L : ℕ) (r s : Record ℤ) → From L 0 0 r → From L 1 0 s → before r s ≡ true
unfolding before
later_kind L (rec kd p f t) (rec ke q u v) x y = rw (x.0, y.0)

pub result_in_order : (L : ℕ) (g : ℤ → ℤ → Bool) → InOrder (result L g)
unfolding result kind_of
result_in_order L g =
    append_order (From L 0 0) (From L 1 0) (kind_of L 0 (level g)) (kind_of L 1 (upright g))
    (lines_in_order L 0 (λ p k. level g (step L p) (step L k)) (2 * L) 0 (suc (2 * L)))
    (lines_in_order L 1 (λ p k. upright g (step L p) (step L k)) (2 * L) 0 (suc (2 * L)))
    (lines_from L 0 (λ p k. level g (step L p) (step L k)) (2 * L) 0 (suc (2 * L)))
    (lines_from L 1 (λ p k. upright g (step L p) (step L k)) (2 * L) 0 (suc (2 * L)))
    (later_kind L)
