-- Sound, closed edges are fit for the sweep in steps. Assumes nothing.
--
--   layers_are_low            their layers are below 8
--   xs_range, ys_range   their coordinates are in range
--   edges_ok             so they are fit for the sweep
use Rattle.std.specs.Prelude.{◌≡◌, refl, Bool, true, false, ◌||◌, List, [], ◌∷◌, map, ℕ, ◌*◌, ◌≤◌, ◌<◌, eqb, ℤ, length}
use Rattle.std.proofs.lemmas.Bool.{false≢true}
use Rattle.std.proofs.Common.{arith, eqb-true}
use Rattle.std.proofs.lemmas.List.{length-map}
use Rattle.meaning.specs.Numbers.{limit}
use Rattle.meaning.specs.Edges.{Edge, edge, Closed}
use Rattle.basic_laws.specs.Steps.{lift, lift_le}
use Rattle.basic_laws.specs.Sound.{Sound, sound_parts, layer_low, lifted}
use Rattle.basic_laws.specs.Fours.{layer_of}
use Rattle.basic_laws.specs.Lists.{All}
use Rattle.grid_laws.specs.Plane.{xs_of, ys_of}
use Rattle.grid_laws.specs.Places.{has}
use Rattle.laws.specs.Covered.{closed_view}
use Rattle.strip_laws.specs.Ordered.{EdgesOk}

layers_are_low : (L : ℕ) (ds : List (Edge ℤ)) → Sound 7 L ds → All (λ e. layer_of e < 8) (map (lifted L) ds)
unfolding lifted
layers_are_low L [] s = tt
layers_are_low L (edge l y f t ∷ ds) s = let P = sound_parts 7 L l y f t s.0 in (omega (arith, layer_low l 7 P.natural P.low), layers_are_low L ds s.1)

-- one of a list: the first, or one of the rest
one_of : (v p : ℕ) (ps : List ℕ) (most : ℕ) → p ≤ most → (has v ps ≡ true → v ≤ most) → has v (p ∷ ps) ≡ true → v ≤ most
unfolding has
one_of v p ps most h rest e = go (eqb v p) refl e
  where
    go : (b : Bool) → eqb v p ≡ b → (b || has v ps) ≡ true → v ≤ most
    go true q u = omega (arith, eqb-true v p q)
    go false q u = rest u

xs_range : (L : ℕ) (ds : List (Edge ℤ)) → Sound 7 L ds → (v : ℕ) → has v (xs_of (map (lifted L) ds)) ≡ true → v ≤ 2 * L
unfolding lifted xs_of has
xs_range L [] s v h = absurd (false≢true h)
xs_range L (edge l y f t ∷ ds) s v h =
    let P = sound_parts 7 L l y f t s.0 in
    one_of v (lift L f) (lift L t ∷ xs_of (map (lifted L) ds)) (2 * L) (lift_le L f P.from_in) (λ u. one_of v (lift L t) (xs_of (map (lifted L) ds)) (2 * L) (lift_le L t P.to_in) (λ w. xs_range L ds s.1 v w) u) h

ys_range : (L : ℕ) (ds : List (Edge ℤ)) → Sound 7 L ds → (v : ℕ) → has v (ys_of (map (lifted L) ds)) ≡ true → v ≤ 2 * L
unfolding lifted ys_of has
ys_range L [] s v h = absurd (false≢true h)
ys_range L (edge l y f t ∷ ds) s v h =
    let P = sound_parts 7 L l y f t s.0 in
    one_of v (lift L y) (ys_of (map (lifted L) ds)) (2 * L) (lift_le L y P.y_in) (λ w. ys_range L ds s.1 v w) h

pub edges_ok : (ds : List (Edge ℤ)) → length ds ≤ 4096 → Sound 7 limit ds → Closed ds → EdgesOk (map (lifted limit) ds)
edges_ok ds few s c = record {
  few = omega (arith, length-map ds (lifted limit));
  layers = layers_are_low limit ds s;
  closed = closed_view 7 limit ds s c;
  range_x = xs_range limit ds s;
  range_y = ys_range limit ds s;
}
