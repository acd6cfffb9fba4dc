-- Places of an ascending list, and the coordinates of edges. What the sweep finds is in proofs/Found.antt. Assumes nothing.
--
--   places_rising, places_has   the places of an ascending list rise, and are its numbers
--   edges_ys, edges_xs          the y and the x of edges in steps
use Rattle.std.specs.Prelude.{◌≡◌, refl, ◌≢◌, Bool, true, false, ◌||◌, eqb}
use Rattle.std.proofs.Math.Path.{sym, ap}
use Rattle.std.proofs.Common.{◌∙◌, arith, eqb-true}
use mathlib.Core.List.{List, [], ◌∷◌, map}
use Prim.Native.Nat.{ℕ, zero, suc, ◌+◌}
use Rattle.std.proofs.Math.ListN.{length, get_or}
use Rattle.std.proofs.lemmas.Bool.{eqb-false}
use Rattle.meaning.specs.Numbers.{pick}
use Rattle.meaning.specs.Edges.{Edge, edge}
use Rattle.basic_laws.specs.Fours.{y_of, from_of, to_of}
use Rattle.sum_laws.specs.Sums.{Ascending}
use Rattle.sum_laws.specs.Pairs.{Pairs}
use Rattle.grid_laws.specs.Plane.{xs_of, ys_of}
use Rattle.grid_laws.specs.Places.{has, Rising}
use Rattle.sweep_laws.specs.Lines.{places_after, places}
use Rattle.strip_laws.specs.Ordered.{no_edge}

-- ---- places

after_rising : (y : ℕ) (ys : List ℕ) → Ascending (y ∷ ys) → Rising (suc y) (places_after y ys)
unfolding places_after
after_rising y [] up = tt
after_rising y (z ∷ zs) up = go (eqb y z) refl (after_rising z zs (λ p q h l. up (suc p) (suc q) (omega arith) (omega arith)))
  where
    go : (b : Bool) → eqb y z ≡ b → Rising (suc z) (places_after z zs) → Rising (suc y) (pick b (places_after y zs) (z ∷ places_after z zs))
    go true e h = rw (eqb-true y z e) h
    go false e h = let n : y ≢ z = eqb-false y z e in (omega (arith, up 0 1 (omega arith) (omega arith)), h)

pub places_rising : (ys : List ℕ) → Ascending ys → Rising zero (places ys)
unfolding places
places_rising [] up = tt
places_rising (y ∷ ys) up = (omega arith, after_rising y ys up)

or_twice : (p r : Bool) → (p || (p || r)) ≡ (p || r)
or_twice true r = refl
or_twice false r = refl

after_has : (v y : ℕ) (ys : List ℕ) → (eqb v y || has v (places_after y ys)) ≡ (eqb v y || has v ys)
unfolding places_after has
after_has v y [] = refl
after_has v y (z ∷ zs) = go (eqb y z) refl (after_has v z zs)
  where
    go : (b : Bool) → eqb y z ≡ b → (eqb v z || has v (places_after z zs)) ≡ (eqb v z || has v zs) → (eqb v y || has v (pick b (places_after y zs) (z ∷ places_after z zs))) ≡ (eqb v y || (eqb v z || has v zs))
    go true e h = rw (eqb-true y z e) (h ∙ sym (or_twice (eqb v z) (has v zs)))
    go false e h = ap (◌||◌ (eqb v y)) h

pub places_has : (v : ℕ) (ys : List ℕ) → has v (places ys) ≡ has v ys
unfolding places has
places_has v [] = refl
places_has v (y ∷ ys) = after_has v y ys

-- ---- the coordinates of edges

pub edges_ys : (es : List (Edge ℕ)) → ys_of es ≡ map y_of es
unfolding ys_of
edges_ys [] = refl
edges_ys (edge l y f t ∷ es) = ap (λ (r : List ℕ). y ∷ r) (edges_ys es)

pub edges_xs : (es : List (Edge ℕ)) (xs : List ℕ) → length xs ≡ length es + length es → Pairs (λ k. from_of (get_or es k no_edge)) (λ k. to_of (get_or es k no_edge)) xs (length es) → xs_of es ≡ xs
unfolding xs_of
edges_xs [] [] l P = refl
edges_xs [] (x ∷ xs) l P = absurd (omega arith)
edges_xs (edge c y f t ∷ es) [] l P = absurd (omega arith)
edges_xs (edge c y f t ∷ es) (a ∷ []) l P = absurd (omega arith)
edges_xs (edge c y f t ∷ es) (a ∷ b ∷ xs) l P =
    let first : f ≡ a = sym (P 0 (omega arith)).0 in
    let second : t ≡ b = sym (P 0 (omega arith)).1 in
    let rest = edges_xs es xs (omega arith) (λ j h. (
      ap (λ (n : ℕ). get_or (a ∷ b ∷ xs) n 0) (twice j) ∙ (P (suc j) (omega arith)).0,
      ap (λ (n : ℕ). get_or (a ∷ b ∷ xs) n 0) (twice_one j) ∙ (P (suc j) (omega arith)).1,
    )) in
    rw (first, second, rest)
  where
    twice : (j : ℕ) → suc (suc (j + j)) ≡ suc j + suc j
    twice j = omega arith

    twice_one : (j : ℕ) → suc (suc (j + j + 1)) ≡ suc j + suc j + 1
    twice_one j = omega arith
