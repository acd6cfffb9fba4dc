-- The ends of the runs of a line, point by point. Assumes nothing.
--
--   line_points      THE LAW: those of a line are those at its points, one after the other
use Rattle.std.specs.Prelude.{◌≡◌, ◌≢◌, Bool, ◌&&◌, eqb}
use Rattle.std.proofs.Math.Path.{refl, sym, ap}
use Rattle.std.proofs.Common.{◌∙◌, true≢false, arith, zero-add}
use Rattle.std.proofs.Math.Bool.{true, false}
use mathlib.Core.List.{List, [], ◌∷◌, ◌++◌, map}
use Prim.Native.Nat.{ℕ, zero, suc, ◌+◌, ◌<◌}
use Rattle.meaning.specs.Cells.{Dir, off, fwd, bwd}
use Rattle.meaning.specs.Records.{Run, run, same_dir, join_if, join, put, line, each}
use Rattle.grid_laws.specs.LineLaws.{put_put}
use Rattle.grid_laws.specs.OneLine.{Good, line_good}
use Rattle.grid_laws.specs.Scan.{put_other}
use Rattle.vertical_laws.specs.LineTips.{closes, cut, each_shift, flat, opens, prev}

-- ---- the ends of `put s b d rs` but its first

abbrev rest_if : {A : Type 0} → (ℕ → Bool → A) → Bool → ℕ → Dir → ℕ → ℕ → Dir → List Run → List A
rest_if mk true b d l h e rs = map (mk h) (closes d) ++ flat mk rs
rest_if mk false b d l h e rs = map (mk b) (closes d) ++ flat mk (run l h e ∷ rs)

abbrev rest_join : {A : Type 0} → (ℕ → Bool → A) → ℕ → Dir → List Run → List A
rest_join mk b d [] = map (mk b) (closes d) ++ []
rest_join mk b d (run l h e ∷ rs) = rest_if mk (eqb l b && same_dir e d) b d l h e rs

abbrev rest : {A : Type 0} → (ℕ → Bool → A) → ℕ → Dir → List Run → List A
rest mk b off rs = flat mk rs
rest mk b fwd rs = rest_join mk b fwd rs
rest mk b bwd rs = rest_join mk b bwd rs

abbrev tail : {A : Type 0} → List A → List A
tail [] = []
tail (x ∷ xs) = xs

module _ {A : Type 0} (mk : ℕ → Bool → A) where
  join_rest : (s b : ℕ) (d : Dir) (rs : List Run) → flat mk (join s b d rs) ≡ map (mk s) (opens d) ++ rest_join mk b d rs
  unfolding flat
  join_rest s b d [] = refl
  join_rest s b d (run l h e ∷ rs) = go (eqb l b && same_dir e d)
    where
      go : (t : Bool) → flat mk (join_if t s b d l h e rs) ≡ map (mk s) (opens d) ++ rest_if mk t b d l h e rs
      go true = refl
      go false = refl

  put_rest : (s b : ℕ) (d : Dir) (rs : List Run) → flat mk (put s b d rs) ≡ map (mk s) (opens d) ++ rest mk b d rs
  put_rest s b off rs = refl
  put_rest s b fwd rs = join_rest s b fwd rs
  put_rest s b bwd rs = join_rest s b bwd rs

  fwd_tail : (a : ℕ) (rs : List Run) → rest mk a fwd rs ≡ tail (flat mk (put a a fwd rs))
  fwd_tail a rs = sym (ap tail (put_rest a a fwd rs))

  bwd_tail : (a : ℕ) (rs : List Run) → rest mk a bwd rs ≡ tail (flat mk (put a a bwd rs))
  bwd_tail a rs = sym (ap tail (put_rest a a bwd rs))

  fwd_other : (a b : ℕ) (e : Dir) (rs : List Run) → a < b → Good b off rs → e ≢ fwd → rest mk a fwd (put a b e rs) ≡ mk a false ∷ (map (mk a) (opens e) ++ rest mk b e rs)
  unfolding flat
  fwd_other a b e rs l g n = fwd_tail a (put a b e rs) ∙ ap (λ (ss : List Run). tail (flat mk ss)) (put_other a a b fwd e rs l g n) ∙ ap (◌∷◌ (mk a false)) (put_rest a b e rs)

  bwd_other : (a b : ℕ) (e : Dir) (rs : List Run) → a < b → Good b off rs → e ≢ bwd → rest mk a bwd (put a b e rs) ≡ mk a true ∷ (map (mk a) (opens e) ++ rest mk b e rs)
  unfolding flat
  bwd_other a b e rs l g n = bwd_tail a (put a b e rs) ∙ ap (λ (ss : List Run). tail (flat mk ss)) (put_other a a b bwd e rs l g n) ∙ ap (◌∷◌ (mk a true)) (put_rest a b e rs)

  rest_step : (a b : ℕ) (d e : Dir) (rs : List Run) → a < b → Good b off rs → rest mk a d (put a b e rs) ≡ map (mk a) (cut d e) ++ rest mk b e rs
  rest_step a b off off rs l g = put_rest a b off rs
  rest_step a b off fwd rs l g = put_rest a b fwd rs
  rest_step a b off bwd rs l g = put_rest a b bwd rs
  rest_step a b fwd off rs l g = fwd_other a b off rs l g (λ p. true≢false (ap (same_dir off) p))
  rest_step a b fwd fwd rs l g = fwd_tail a (put a b fwd rs) ∙ ap (λ (ss : List Run). tail (flat mk ss)) (put_put a a b fwd rs) ∙ ap tail (put_rest a b fwd rs)
  rest_step a b fwd bwd rs l g = fwd_other a b bwd rs l g (λ p. true≢false (ap (same_dir bwd) p))
  rest_step a b bwd off rs l g = bwd_other a b off rs l g (λ p. true≢false (ap (same_dir off) p))
  rest_step a b bwd fwd rs l g = bwd_other a b fwd rs l g (λ p. true≢false (ap (same_dir fwd) p))
  rest_step a b bwd bwd rs l g = bwd_tail a (put a b bwd rs) ∙ ap (λ (ss : List Run). tail (flat mk ss)) (put_put a a b bwd rs) ∙ ap tail (put_rest a b bwd rs)

  points : (f : ℕ → Dir) (a n : ℕ) → f (a + suc n) ≡ off → rest mk (suc a) (f a) (line f (suc a) n) ≡ each (λ k. map (mk (suc k)) (cut (f k) (f (suc k)))) a (suc n)
  unfolding line each flat
  points f a zero h = last (f a) (f (suc a)) (ap f (omega arith) ∙ h)
    where
      last : (d e : Dir) → e ≡ off → rest mk (suc a) d [] ≡ map (mk (suc a)) (cut d e) ++ []
      last off e q = rw q
      last fwd e q = rw q
      last bwd e q = rw q
  points f a (suc n) h =
      rest_step (suc a) (suc (suc a)) (f a) (f (suc a)) (line f (suc (suc a)) n) (omega arith) (line_good f (suc (suc a)) n)
      ∙ ap (◌++◌ (map (mk (suc a)) (cut (f a) (f (suc a))))) (points f (suc a) n (ap f (omega arith) ∙ h))

  pub line_points : (f : ℕ → Dir) (n : ℕ) → f n ≡ off → flat mk (line f 0 n) ≡ each (λ k. map (mk k) (cut (prev f k) (f k))) 0 (suc n)
  unfolding line each flat
  line_points f zero h = sym (none (f 0) h)
    where
      none : (d : Dir) → d ≡ off → map (mk 0) (cut off d) ++ [] ≡ []
      none d q = rw q
  line_points f (suc n) h =
      put_rest 0 1 (f 0) (line f 1 n)
      ∙ ap (◌++◌ (map (mk 0) (opens (f 0)))) (points f 0 n (ap f (zero-add (suc n)) ∙ h) ∙ sym (each_shift (λ k. map (mk k) (cut (prev f k) (f k))) 0 (suc n)))
      ∙ ap (λ (bs : List Bool). map (mk 0) bs ++ each (λ k. map (mk k) (cut (prev f k) (f k))) 1 (suc n)) (first (f 0))
    where
      first : (e : Dir) → opens e ≡ cut off e
      first off = refl
      first fwd = refl
      first bwd = refl
