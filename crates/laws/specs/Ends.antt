-- Closed by ends: a list is closed exactly when, for each layer, at every x as many edges begin as end. Assumes nothing.
--
--   from_at x, to_at x    the edge's from (to) is x
--   closed_ends         a closed list is closed by ends
--   ends_closed         CLOSED BY ENDS: a sound list that is closed by ends is closed
use Rattle.std.specs.Prelude.{◌≡◌, refl, Bool, ◌&&◌, List, [], ◌∷◌, map, ℕ, zero, suc, ◌+◌, ◌≤◌, leb, eqb, ℤ, pos, negsuc}
use Rattle.std.proofs.Math.Path.{sym}
use Rattle.std.proofs.Common.{ap, ◌∙◌, arith, le-leb, eq-eqb, ne_eqb}
use Rattle.std.proofs.Math.Bool.{true, false}
use Rattle.std.proofs.Math.Decide.{dec_le, ℕ_discrete}
use Rattle.std.proofs.Math.Dec.{leb-suc-suc}
use Rattle.std.proofs.Math.IntN.{pred_ℤ}
use Rattle.std.specs.Int.Signed.{le_z}
use Rattle.std.proofs.lemmas.Bool.{lt-leb}
use Rattle.meaning.specs.Numbers.{bit, eq_z, step}
use Rattle.meaning.specs.Edges.{Edge, edge, on, west, east, number, Closed, sound_edge}
use Rattle.basic_laws.specs.Lists.{all_map, number_none}
use Rattle.basic_laws.specs.Tests.{and_off, and_parts, ltb_more}
use Rattle.basic_laws.specs.Steps.{step_pred}
use Rattle.basic_laws.specs.Sound.{Sound, sound_parts, lifted}
use Rattle.grid_laws.specs.Plane.{ClosedN}
use Rattle.laws.specs.View.{before_first}
use Rattle.laws.specs.Columns.{to_up_to, from_up_to, columns, closed_up_to}
use Rattle.laws.specs.Covered.{low, wests_column, easts_column, view_closed}

unfoldable pub from_at : ℤ → Edge ℤ → Bool
from_at x (edge l y f t) = eq_z f x

unfoldable pub to_at : ℤ → Edge ℤ → Bool
to_at x (edge l y f t) = eq_z t x

-- one column more: an end is at most x where it is at most the number before, or x itself
one_more : (a b : ℕ) → bit (leb a (suc b)) ≡ bit (leb a b) + bit (eqb a (suc b))
one_more a b = ap bit (sym (leb-suc-suc a (suc b))) ∙ ltb_more a (suc b) ∙ ap (λ (t : Bool). bit t + bit (eqb a (suc b))) (leb-suc-suc a b)

step_bit : (z x : ℤ) → bit (le_z z x) ≡ bit (le_z z (pred_ℤ x)) + bit (eq_z z x)
unfolding eq_z
step_bit (pos a) (pos (suc b)) = one_more a b
step_bit (pos zero) (pos zero) = refl
step_bit (pos (suc a)) (pos zero) = rw (lt-leb (suc a) 0 (omega arith), ne_eqb (suc a) 0 (λ e. omega arith))
step_bit (pos a) (negsuc b) = refl
step_bit (negsuc a) (pos (suc b)) = refl
step_bit (negsuc a) (pos zero) = rw (le-leb 0 a (omega arith))
step_bit (negsuc a) (negsuc b) = go (dec_le b a) (ℕ_discrete a b)
  where
    go : Dec (b ≤ a) → Dec (a ≡ b) → bit (leb b a) ≡ bit (leb (suc b) a) + bit (eqb a b)
    go (yes p) (yes q) = rw (le-leb b a p, lt-leb (suc b) a (omega arith), eq-eqb a b q)
    go (yes p) (no q) = rw (le-leb b a p, le-leb (suc b) a (omega arith), ne_eqb a b q)
    go (no p) (yes q) = absurd (omega arith)
    go (no p) (no q) = rw (lt-leb b a (omega arith), lt-leb (suc b) a (omega arith), ne_eqb a b q)

from_step : (es : List (Edge ℤ)) (c : ℕ) (x : ℤ) → number (λ e. on c e && from_up_to x e) es ≡ number (λ e. on c e && from_up_to (pred_ℤ x) e) es + number (λ e. on c e && from_at x e) es
unfolding number from_up_to from_at
from_step [] c x = refl
from_step (edge l y f t ∷ es) c x = omega (arith, and_parts (on c (edge l y f t)) (le_z f (pred_ℤ x)) (eq_z f x) (le_z f x) (sym (step_bit f x)), from_step es c x)

to_step : (es : List (Edge ℤ)) (c : ℕ) (x : ℤ) → number (λ e. on c e && to_up_to x e) es ≡ number (λ e. on c e && to_up_to (pred_ℤ x) e) es + number (λ e. on c e && to_at x e) es
unfolding number to_up_to to_at
to_step [] c x = refl
to_step (edge l y f t ∷ es) c x = omega (arith, and_parts (on c (edge l y f t)) (le_z t (pred_ℤ x)) (eq_z t x) (le_z t x) (sym (step_bit t x)), to_step es c x)

pub closed_ends : (es : List (Edge ℤ)) → Closed es → (c : ℕ) (x : ℤ) → number (λ e. on c e && from_at x e) es ≡ number (λ e. on c e && to_at x e) es
closed_ends es h c x = omega (arith, from_step es c x, to_step es c x, closed_up_to es h c x, closed_up_to es h c (pred_ℤ x))

module _ (top L : ℕ) (es : List (Edge ℤ)) (s : Sound top L es) (h : (c : ℕ) (x : ℤ) → number (λ e. on c e && from_at x e) es ≡ number (λ e. on c e && to_at x e) es) where
  -- before the range no edge begins or ends
  from_none : (c : ℕ) → number (λ e. on c e && from_up_to (pred_ℤ (step L 0)) e) es ≡ 0
  unfolding from_up_to
  from_none c = number_none _ es (all_map _ _ es one s)
    where
      one : (e : Edge ℤ) → sound_edge top L e ≡ true → (on c e && from_up_to (pred_ℤ (step L 0)) e) ≡ false
      one (edge l y f t) q = rw (low L f (pred_ℤ (step L 0)) (sound_parts top L l y f t q).from_in (before_first L)) (and_off (on c (edge l y f t)))

  to_none : (c : ℕ) → number (λ e. on c e && to_up_to (pred_ℤ (step L 0)) e) es ≡ 0
  unfolding to_up_to
  to_none c = number_none _ es (all_map _ _ es one s)
    where
      one : (e : Edge ℤ) → sound_edge top L e ≡ true → (on c e && to_up_to (pred_ℤ (step L 0)) e) ≡ false
      one (edge l y f t) q = rw (low L t (pred_ℤ (step L 0)) (sound_parts top L l y f t q).to_in (before_first L)) (and_off (on c (edge l y f t)))

  up_to : (c n : ℕ) → number (λ e. on c e && from_up_to (step L n) e) es ≡ number (λ e. on c e && to_up_to (step L n) e) es
  up_to c zero = omega (arith, from_step es c (step L 0), to_step es c (step L 0), from_none c, to_none c, h c (step L 0))
  up_to c (suc n) =
      let a = rw step_pred at (from_step es c (step L (suc n))) in
      let b = rw step_pred at (to_step es c (step L (suc n))) in
      omega (arith, a, b, up_to c n, h c (step L (suc n)))

  pub ends_closed : Closed es
  unfolding ClosedN
  ends_closed = view_closed top L es s steps
    where
      steps : ClosedN (map (lifted L) es)
      steps c i =
          let e : number (λ e. on c e && west (step L i) e) es ≡ number (λ e. on c e && east (step L i) e) es = omega (arith, columns es c (step L i), up_to c i) in
          sym (wests_column top L es s c i) ∙ e ∙ easts_column top L es s c i
