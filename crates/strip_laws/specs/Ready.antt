-- Columns of edges in steps are ordered edges. What the sweep is asked is in proofs/Ready.antt. Assumes nothing.
--
--   ordered_of      columns of edges in steps, in order of y and with ranked x, are ordered
use Rattle.std.specs.Prelude.{◌≡◌, refl, List, [], ◌∷◌, map, ℕ, zero, suc, ◌+◌, length, get_or}
use Rattle.std.proofs.Common.{ap, ◌∙◌, subst, arith}
use Rattle.meaning.specs.Edges.{Edge, edge}
use Rattle.basic_laws.specs.Fours.{layer_of, y_of, from_of, to_of}
use Rattle.basic_laws.specs.Lists.{map_at}
use Rattle.sum_laws.specs.Pairs.{Pairs}
use Rattle.grid_laws.specs.Plane.{xs_of}
use Rattle.axis.specs.Axes.{InOrder, Ranks}
use Rattle.strip_laws.specs.Ordered.{no_edge, Ordered}

xs_long : (es : List (Edge ℕ)) → length (xs_of es) ≡ length es + length es
unfolding xs_of
xs_long [] = refl
xs_long (edge l y f t ∷ es) = omega (arith, xs_long es)

xs_pairs : (es : List (Edge ℕ)) → Pairs (λ k. from_of (get_or es k no_edge)) (λ k. to_of (get_or es k no_edge)) (xs_of es) (length es)
unfolding xs_of
xs_pairs [] j h = absurd (omega arith)
xs_pairs (edge l y f t ∷ es) zero h = (refl, refl)
xs_pairs (edge l y f t ∷ es) (suc j) h = (
  ap (λ (n : ℕ). get_or (f ∷ t ∷ xs_of es) n 0) (twice j) ∙ (xs_pairs es j (omega arith)).0,
  ap (λ (n : ℕ). get_or (f ∷ t ∷ xs_of es) n 0) (twice_one j) ∙ (xs_pairs es j (omega arith)).1,
)
  where
    twice : (j : ℕ) → suc j + suc j ≡ suc (suc (j + j))
    twice j = omega arith

    twice_one : (j : ℕ) → suc j + suc j + 1 ≡ suc (suc (j + j + 1))
    twice_one j = omega arith

pub ordered_of : {base : ℕ} (es : List (Edge ℕ)) {ws layers ys xs ends values : List ℕ} {r : ℕ} → layers ≡ map layer_of es → ys ≡ map y_of es → xs ≡ xs_of es
    → InOrder base ys ws → Ranks xs values ends r → Ordered base es ws layers xs ends values r
ordered_of {base} es {ws} el ey ex I R = record {
  order = subst (λ (ys : List ℕ). InOrder base ys ws) ey I;
  layer = λ k h. rw el (map_at layer_of es k no_edge 0 h);
  long = rw ex (xs_long es);
  sides = rw ex (xs_pairs es);
  ranked = R;
}
