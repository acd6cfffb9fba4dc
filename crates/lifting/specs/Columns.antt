-- Laws of edges in steps. Assumes nothing.
--
--   twice, twice_one         the places of a pair, one pair on
--   xs_long, xs_pairs        an edge has two ends: end k + k is the from of edge k, and end k + k + 1 its to
--   EndsOf es xs k           so with the first k edges of es
--   pairs_xs, ends_at        and such a list is that of the ends; of edges in steps
--   layers_low, xs_range     layers of sound edges are below 8, and ends in range
--   steps L ns               the edges that the numbers ns are, in steps; steps_long: how many
--   Lifting, record_ready, lifting_start, lifting_more, lifting_end   the loop of `lift`: the columns of the first k edges
use Rattle.std.specs.Prelude.{◌≡◌, refl, true, ℤ, nat_abs, length, get_or, set}
use Rattle.std.proofs.Common.{sym, ◌∙◌, ⊎_elim, arith, length-set, ext_get_or}
use Rattle.std.proofs.Math.Path.{ap}
use mathlib.Core.List.{List, [], ◌∷◌, map}
use Prim.Native.Nat.{ℕ, zero, suc, ◌+◌, ◌*◌, ◌/◌, ◌≤◌, ◌<◌}
use Rattle.std.proofs.lemmas.List.{length-map}
use Rattle.meaning.specs.Edges.{Edge, edge, edges_of, sound_edge}
use Rattle.basic_laws.specs.Lists.{map_at}
use Rattle.basic_laws.specs.Steps.{lift, lift_le}
use Rattle.basic_laws.specs.Fours.{part, edge_at, none, edges_length, edges_at, layer_of, y_of, from_of, to_of}
use Rattle.basic_laws.specs.Sound.{Sound, SoundList, sound_parts, sound_at, layer_low, lifted}
use Rattle.grid_laws.specs.Plane.{xs_of}
use Rattle.sum_laws.specs.Laws.{after_set}
use Rattle.sum_laws.specs.Pairs.{Pairs, pairs_more}
use Rattle.lifting.specs.InSteps.{InSteps, no_edge}

-- ---- two ends an edge

pub twice : (j : ℕ) → suc (suc (j + j)) ≡ suc j + suc j
twice j = omega arith

pub twice_one : (j : ℕ) → suc (suc (j + j + 1)) ≡ suc j + suc j + 1
twice_one j = omega arith

pub xs_long : (es : List (Edge ℕ)) → length (xs_of es) ≡ length es + length es
unfolding xs_of
xs_long [] = refl
xs_long (edge l y f t ∷ es) = omega (arith, xs_long es)

abbrev pub EndsOf : List (Edge ℕ) → List ℕ → ℕ → Type 0
EndsOf es xs k = Pairs (λ j. from_of (get_or es j no_edge)) (λ j. to_of (get_or es j no_edge)) xs k

pub xs_pairs : (es : List (Edge ℕ)) → EndsOf es (xs_of es) (length es)
unfolding xs_of
xs_pairs [] j h = absurd (omega arith)
xs_pairs (edge l y f t ∷ es) zero h = (refl, refl)
xs_pairs (edge l y f t ∷ es) (suc j) h = (
  ap (λ (n : ℕ). get_or (f ∷ t ∷ xs_of es) n 0) (sym (twice j)) ∙ (xs_pairs es j (omega arith)).0,
  ap (λ (n : ℕ). get_or (f ∷ t ∷ xs_of es) n 0) (sym (twice_one j)) ∙ (xs_pairs es j (omega arith)).1,
)

pub pairs_xs : (es : List (Edge ℕ)) (xs : List ℕ) → length xs ≡ length es + length es → EndsOf es xs (length es) → xs ≡ xs_of es
unfolding xs_of
pairs_xs [] [] l P = refl
pairs_xs [] (x ∷ xs) l P = absurd (omega arith)
pairs_xs (edge c y f t ∷ es) [] l P = absurd (omega arith)
pairs_xs (edge c y f t ∷ es) (a ∷ []) l P = absurd (omega arith)
pairs_xs (edge c y f t ∷ es) (a ∷ b ∷ xs) l P =
    let first : a ≡ f = (P 0 (omega arith)).0 in
    let second : b ≡ t = (P 0 (omega arith)).1 in
    let rest = pairs_xs es xs (omega arith) (λ j h. (
      ap (λ (n : ℕ). get_or (a ∷ b ∷ xs) n 0) (twice j) ∙ (P (suc j) (omega arith)).0,
      ap (λ (n : ℕ). get_or (a ∷ b ∷ xs) n 0) (twice_one j) ∙ (P (suc j) (omega arith)).1,
    )) in
    rw (first, second, rest)

pub ends_at : (es : List (Edge ℕ)) (layers ys xs : List ℕ) → InSteps es layers ys xs → EndsOf es xs (length es)
ends_at es layers ys xs I j h = rw I.xs_are (xs_pairs es j h)

-- ---- sound edges

module _ (L : ℕ) where
  pub layers_low : (ds : List (Edge ℤ)) → Sound 7 L ds → (k : ℕ) → k < length ds → get_or (map layer_of (map (lifted L) ds)) k 0 < 8
  unfolding lifted
  layers_low [] s k h = absurd (omega arith)
  layers_low (edge l y f t ∷ ds) s zero h = let P = sound_parts 7 L l y f t s.0 in omega (arith, layer_low l 7 P.natural P.low)
  layers_low (edge l y f t ∷ ds) s (suc k) h = layers_low ds s.1 k (omega arith)

  pub xs_range : (ds : List (Edge ℤ)) → Sound 7 L ds → (k : ℕ) → k < length (xs_of (map (lifted L) ds)) → get_or (xs_of (map (lifted L) ds)) k 0 ≤ 2 * L
  unfolding lifted xs_of
  xs_range [] s k h = absurd (omega arith)
  xs_range (edge l y f t ∷ ds) s zero h = lift_le L f (sound_parts 7 L l y f t s.0).from_in
  xs_range (edge l y f t ∷ ds) s (suc zero) h = lift_le L t (sound_parts 7 L l y f t s.0).to_in
  xs_range (edge l y f t ∷ ds) s (suc (suc k)) h = xs_range ds s.1 k (omega arith)

-- ---- the loop of `lift`

pub record Lifting (es : List (Edge ℕ)) (layers ys xs : List ℕ) (k : ℕ) : Type 0 where
  pub few : length es ≤ 4096
  pub within : k ≤ length es
  pub as_layers : length layers ≡ length es
  pub as_ys : length ys ≡ length es
  pub as_xs : length xs ≡ length es + length es
  pub layer : (j : ℕ) → j < k → get_or layers j 0 ≡ layer_of (get_or es j no_edge)
  pub height : (j : ℕ) → j < k → get_or ys j 0 ≡ y_of (get_or es j no_edge)
  pub ends : EndsOf es xs k

-- one store more, of f of edge k
column : (f : Edge ℕ → ℕ) (es : List (Edge ℕ)) (out : List ℕ) (k v : ℕ) → k < length out → v ≡ f (get_or es k no_edge) → ((j : ℕ) → j < k → get_or out j 0 ≡ f (get_or es j no_edge))
    → (j : ℕ) → j < k + 1 → get_or (set out k v) j 0 ≡ f (get_or es j no_edge)
column f es out k v h e has j l = ⊎_elim (λ Q. Q.1 ∙ e ∙ ap (λ n. f (get_or es n no_edge)) (sym Q.0)) (λ Q. Q.1 ∙ has j (omega arith)) (after_set out k v j h)

whole : (f : Edge ℕ → ℕ) (es : List (Edge ℕ)) (out : List ℕ) → length out ≡ length es → ((j : ℕ) → j < length es → get_or out j 0 ≡ f (get_or es j no_edge)) → out ≡ map f es
whole f es out e has = ext_get_or 0 out (map f es) (e ∙ sym (length-map es f)) (λ j h. let l : j < length es = omega arith in has j l ∙ sym (map_at f es j no_edge 0 l))

module _ (L : ℕ) (ns : List ℤ) where
  abbrev pub steps : List (Edge ℕ)
  steps = map (lifted L) (edges_of ns)

  pub steps_long : length steps ≡ length ns / 4
  steps_long = length-map (edges_of ns) (lifted L) ∙ edges_length ns

  step_at : (k : ℕ) → k < length ns / 4 → get_or steps k no_edge ≡ edge (nat_abs (part ns k 0)) (lift L (part ns k 1)) (lift L (part ns k 2)) (lift L (part ns k 3))
  unfolding lifted edge_at
  step_at k h = map_at (lifted L) (edges_of ns) k none no_edge (omega (arith, edges_length ns)) ∙ ap (lifted L) (edges_at ns k none h)

  -- record k can be read
  pub record_ready : {layers ys xs : List ℕ} {k : ℕ} → SoundList 7 L ns → Lifting steps layers ys xs k → k < length layers → (4 * k + 3 < length ns) × (sound_edge 7 L (edge_at ns k) ≡ true)
  record_ready {layers} {ys} {xs} {k} S C h =
      let l : k < length ns / 4 = omega (arith, C.as_layers, steps_long) in
      (omega arith, sound_at 7 L ns k S.sound l)

  pub lifting_start : SoundList 7 L ns → (layers ys xs : List ℕ) → length layers ≡ length ns / 4 → length ys ≡ length ns / 4 → length xs ≡ length ns / 4 + length ns / 4 → Lifting steps layers ys xs 0
  lifting_start S layers ys xs a b c = record {
    few = omega (arith, S.few, steps_long);
    within = omega arith;
    as_layers = a ∙ sym steps_long;
    as_ys = b ∙ sym steps_long;
    as_xs = omega (arith, steps_long);
    layer = λ j h. absurd (omega arith);
    height = λ j h. absurd (omega arith);
    ends = λ j h. absurd (omega arith);
  }

  pub lifting_more : {layers ys xs : List ℕ} {k : ℕ} → Lifting steps layers ys xs k → k < length layers → (l y f t : ℕ) → l ≡ nat_abs (part ns k 0) → y ≡ lift L (part ns k 1) → f ≡ lift L (part ns k 2) → t ≡ lift L (part ns k 3)
      → Lifting steps (set layers k l) (set ys k y) (set (set xs (k + k) f) (k + k + 1) t) (k + 1)
  lifting_more {layers} {ys} {xs} {k} C h l y f t el ey ef et =
      let here = step_at k (omega (arith, C.as_layers, steps_long)) in
      record {
        few = C.few;
        within = omega (arith, C.as_layers);
        as_layers = length-set layers k l ∙ C.as_layers;
        as_ys = length-set ys k y ∙ C.as_ys;
        as_xs = length-set (set xs (k + k) f) (k + k + 1) t ∙ length-set xs (k + k) f ∙ C.as_xs;
        layer = column layer_of steps layers k l h (el ∙ sym (ap layer_of here)) C.layer;
        height = column y_of steps ys k y (omega (arith, C.as_layers, C.as_ys)) (ey ∙ sym (ap y_of here)) C.height;
        ends = pairs_more (λ j. from_of (get_or steps j no_edge)) (λ j. to_of (get_or steps j no_edge)) xs k f t C.ends (omega (arith, C.as_layers, C.as_xs)) (ef ∙ sym (ap from_of here)) (et ∙ sym (ap to_of here));
      }

  pub lifting_end : {layers ys xs : List ℕ} {k : ℕ} → Lifting steps layers ys xs k → length layers ≤ k → InSteps steps layers ys xs
  lifting_end {layers} {ys} {xs} {k} C h = record {
    layers_are = whole layer_of steps layers C.as_layers (λ j l. C.layer j (omega (arith, C.as_layers)));
    ys_are = whole y_of steps ys C.as_ys (λ j l. C.height j (omega (arith, C.as_layers)));
    xs_are = pairs_xs steps xs C.as_xs (λ j l. C.ends j (omega (arith, C.as_layers)));
  }
