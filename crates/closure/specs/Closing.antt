-- What the answers of `test` say of edges in steps, of which it has the ranks, and of an edge list. Assumes nothing.
--
--   number_two               tests that agree place by place count the same
--   from_ranks, to_ranks     as many edges begin (end) at a rank as at the x of that rank
--   steps_closed             THE EDGES ARE CLOSED, where the answer is Ok
--   steps_open               where it is an Err, THE X OF THAT RANK IS THE LEAST COLUMN at which some layer is not balanced
--   test_ready               an edge list in steps and its ranks can be tested
--   list_closed, list_least, list_open   so with an edge list: it is closed; the least column; it is not closed
use Rattle.std.specs.Prelude.{◌≡◌, refl, Bool, true, false, ◌&&◌, List, [], ◌∷◌, map, ℕ, suc, ◌+◌, ◌*◌, ◌<◌, ◌≤◌, eqb, ℤ, length, get_or, Ok, Err}
use Rattle.std.proofs.Common.{sym, ap, ap₂, ◌∙◌, subst, arith, ne_eqb}
use Rattle.std.proofs.Math.Decide.{dec_lt}
use Rattle.std.proofs.lemmas.List.{length-map}
use Rattle.meaning.specs.Numbers.{bit, limit}
use Rattle.meaning.specs.Edges.{Edge, edge, edges_of, number, Closed as ClosedList}
use Rattle.basic_laws.specs.Lists.{All, all_map, map_at, number_none}
use Rattle.basic_laws.specs.Tests.{and_off, eqb_same}
use Rattle.basic_laws.specs.Fours.{layer_of, from_of, to_of}
use Rattle.basic_laws.specs.Sound.{SoundList, lifted}
use Rattle.grid_laws.specs.Plane.{xs_of, ClosedN}
use Rattle.grid_laws.specs.Places.{has, has_tail, has_ne}
use Rattle.laws.specs.Covered.{closed_view, view_closed}
use Rattle.rank_laws.specs.Ranks.{has_at}
use Rattle.axis.specs.Axes.{Ranks}
use Rattle.lifting.specs.InSteps.{InSteps, no_edge}
use Rattle.lifting.specs.Columns.{xs_long, xs_pairs, layers_low, steps_long}
use Rattle.marks.specs.Marks.{from_at, to_at}
use Rattle.closure.specs.Testing.{edges_by, EvenAt, Answers, TestOk}
use Rattle.closure.specs.TestLaws.{by_long, by_at, past_even}
use Rattle.closure.specs.Balance.{column_even, column_uneven, even_closed, OpenAt, open_not}

pub number_two : (p q : Edge ℕ → Bool) (ds es : List (Edge ℕ)) → length ds ≡ length es → ((j : ℕ) → j < length es → p (get_or ds j no_edge) ≡ q (get_or es j no_edge)) → number p ds ≡ number q es
unfolding number
number_two p q [] [] e h = refl
number_two p q [] (b ∷ es) e h = absurd (omega arith)
number_two p q (a ∷ ds) [] e h = absurd (omega arith)
number_two p q (a ∷ ds) (b ∷ es) e h = ap₂ (λ (t : Bool) (n : ℕ). bit t + n) (h 0 (omega arith)) (number_two p q ds es (omega arith) (λ j l. h (suc j) (omega arith)))

from_parts : (l v : ℕ) (e : Edge ℕ) → from_at l v e ≡ (eqb (layer_of e) l && eqb (from_of e) v)
unfolding from_at
from_parts l v (edge k y f t) = refl

to_parts : (l v : ℕ) (e : Edge ℕ) → to_at l v e ≡ (eqb (layer_of e) l && eqb (to_of e) v)
unfolding to_at
to_parts l v (edge k y f t) = refl

-- no edge begins or ends where no x is
absent : (es : List (Edge ℕ)) (l v : ℕ) → has v (xs_of es) ≡ false → All (λ e. (from_at l v e ≡ false) × (to_at l v e ≡ false)) es
unfolding xs_of from_at to_at
absent [] l v h = tt
absent (edge k y f t ∷ es) l v h =
    let a : eqb f v ≡ false = ne_eqb f v (λ e. has_ne v f (t ∷ xs_of es) h (sym e)) in
    let g = has_tail v f (t ∷ xs_of es) h in
    let b : eqb t v ≡ false = ne_eqb t v (λ e. has_ne v t (xs_of es) g (sym e)) in
    ((rw a (and_off (eqb k l)), rw b (and_off (eqb k l))), absent es l v (has_tail v t (xs_of es) g))

-- nor of a layer that no edge has
other_layer : (es : List (Edge ℕ)) (l v : ℕ) → ((k : ℕ) → k < length es → layer_of (get_or es k no_edge) < 8) → 8 ≤ l → All (λ e. (from_at l v e ≡ false) × (to_at l v e ≡ false)) es
unfolding from_at to_at
other_layer [] l v low h = tt
other_layer (edge k y f t ∷ es) l v low h =
    let a : eqb k l ≡ false = ne_eqb k l (λ e. omega (arith, low 0 (omega arith))) in
    ((rw a, rw a), other_layer es l v (λ j g. low (suc j) (omega arith)) h)

none_even : (es : List (Edge ℕ)) (l v : ℕ) → All (λ e. (from_at l v e ≡ false) × (to_at l v e ≡ false)) es → EvenAt es l v
none_even es l v A =
    number_none (from_at l v) es (all_map _ _ es (λ e u. u.0) A) ∙ sym (number_none (to_at l v) es (all_map _ _ es (λ e u. u.1) A))

module _ (es : List (Edge ℕ)) (layers ends values : List ℕ) (r : ℕ) (layers_are : layers ≡ map layer_of es) (two : length ends ≡ length layers + length layers) (R : Ranks (xs_of es) values ends r) where
  long : length layers ≡ length es
  long = ap length layers_are ∙ length-map es layer_of

  ds_long : length (edges_by layers ends) ≡ length es
  ds_long = by_long layers ends two ∙ long

  -- ranks are apart where their x are
  rank_same : (a b : ℕ) → a < r → b < r → get_or values a 0 ≡ get_or values b 0 → a ≡ b
  rank_same a b ha hb e = go (dec_lt a b) (dec_lt b a)
    where
      go : Dec (a < b) → Dec (b < a) → a ≡ b
      go (yes h) g = absurd (omega (arith, R.rising a b h hb))
      go (no h) (yes g) = absurd (omega (arith, R.rising b a g ha))
      go (no h) (no g) = omega arith

  rank_test : (a x v : ℕ) → a < r → x < r → get_or values a 0 ≡ v → eqb a x ≡ eqb v (get_or values x 0)
  rank_test a x v ha hx e = eqb_same a x v (get_or values x 0) (λ q. sym e ∙ ap (λ n. get_or values n 0) q) (λ q. rank_same a x ha hx (e ∙ q))

  module _ (j : ℕ) (h : j < length es) where
    in_layers : j < length layers
    in_layers = omega (arith, long)

    low_from : j + j < length (xs_of es)
    low_from = omega (arith, xs_long es)

    low_bound : j + j + 1 < length (xs_of es)
    low_bound = omega (arith, xs_long es)

    edge_by : get_or (edges_by layers ends) j no_edge ≡ edge (get_or layers j 0) 0 (get_or ends (j + j) 0) (get_or ends (j + j + 1) 0)
    edge_by = by_at layers ends j two in_layers

    layer_by : get_or layers j 0 ≡ layer_of (get_or es j no_edge)
    layer_by = ap (λ l. get_or l j 0) layers_are ∙ map_at layer_of es j no_edge 0 h

    from_x : get_or values (get_or ends (j + j) 0) 0 ≡ from_of (get_or es j no_edge)
    from_x = R.is (j + j) low_from ∙ (xs_pairs es j h).0

    to_x : get_or values (get_or ends (j + j + 1) 0) 0 ≡ to_of (get_or es j no_edge)
    to_x = R.is (j + j + 1) low_bound ∙ (xs_pairs es j h).1

    from_test : (l x : ℕ) → x < r → from_at l x (get_or (edges_by layers ends) j no_edge) ≡ from_at l (get_or values x 0) (get_or es j no_edge)
    from_test l x hx =
        ap (from_at l x) edge_by ∙ from_parts l x _
        ∙ ap₂ (λ (a b : Bool). a && b) (ap (λ n. eqb n l) layer_by) (rank_test (get_or ends (j + j) 0) x (from_of (get_or es j no_edge)) (R.low (j + j) low_from) hx from_x)
        ∙ sym (from_parts l (get_or values x 0) (get_or es j no_edge))

    to_test : (l x : ℕ) → x < r → to_at l x (get_or (edges_by layers ends) j no_edge) ≡ to_at l (get_or values x 0) (get_or es j no_edge)
    to_test l x hx =
        ap (to_at l x) edge_by ∙ to_parts l x _
        ∙ ap₂ (λ (a b : Bool). a && b) (ap (λ n. eqb n l) layer_by) (rank_test (get_or ends (j + j + 1) 0) x (to_of (get_or es j no_edge)) (R.low (j + j + 1) low_bound) hx to_x)
        ∙ sym (to_parts l (get_or values x 0) (get_or es j no_edge))

  pub from_ranks : (l x : ℕ) → x < r → number (from_at l x) (edges_by layers ends) ≡ number (from_at l (get_or values x 0)) es
  from_ranks l x hx = number_two (from_at l x) (from_at l (get_or values x 0)) (edges_by layers ends) es ds_long (λ j h. from_test j h l x hx)

  pub to_ranks : (l x : ℕ) → x < r → number (to_at l x) (edges_by layers ends) ≡ number (to_at l (get_or values x 0)) es
  to_ranks l x hx = number_two (to_at l x) (to_at l (get_or values x 0)) (edges_by layers ends) es ds_long (λ j h. to_test j h l x hx)

  even_up : (l x : ℕ) → x < r → EvenAt (edges_by layers ends) l x → EvenAt es l (get_or values x 0)
  even_up l x hx e = sym (from_ranks l x hx) ∙ e ∙ to_ranks l x hx

  even_down : (l x : ℕ) → x < r → EvenAt es l (get_or values x 0) → EvenAt (edges_by layers ends) l x
  even_down l x hx e = from_ranks l x hx ∙ e ∙ sym (to_ranks l x hx)

  module _ (eight : (k : ℕ) → k < length layers → get_or layers k 0 < 8) where
    low_layer : (k : ℕ) → k < length es → layer_of (get_or es k no_edge) < 8
    low_layer k h = omega (arith, layer_by k h, eight k (in_layers k h))

    -- as many begin as end at v, if they do at the rank of v
    at_x : (v : ℕ) → ((l x : ℕ) → l < 8 → x < r → get_or values x 0 ≡ v → EvenAt (edges_by layers ends) l x) → (l : ℕ) → EvenAt es l v
    at_x v h l = for_layer (dec_lt l 8)
      where
        known : l < 8 → (b : Bool) → has v (xs_of es) ≡ b → EvenAt es l v
        known g true q =
            let m = has_at v (xs_of es) q in
            let x = get_or ends m.place 0 in
            let hx : x < r = R.low m.place m.within in
            let e : get_or values x 0 ≡ v = R.is m.place m.within ∙ m.is in
            ap (λ n. number (from_at l n) es) (sym e) ∙ even_up l x hx (h l x g hx e) ∙ ap (λ n. number (to_at l n) es) e
        known g false q = none_even es l v (absent es l v q)

        for_layer : Dec (l < 8) → EvenAt es l v
        for_layer (yes g) = known g (has v (xs_of es)) refl
        for_layer (no g) = none_even es l v (other_layer es l v low_layer (omega arith))

    pub steps_closed : Answers (edges_by layers ends) (Ok tt) → ClosedN es
    steps_closed A = even_closed es (λ l v. at_x v (λ k x hk hx e. A k x hk) l)

    module _ (ranks : (p : ℕ) → p < length ends → get_or ends p 0 < r) (x : ℕ) (A : Answers (edges_by layers ends) (Err (record { rank = x }))) where
      pub open_low : x < r
      open_low = go (dec_lt x r)
        where
          go : Dec (x < r) → x < r
          go (yes h) = h
          go (no h) = absurd (A.uneven (past_even layers ends r A.layer x ranks (omega arith)))

      before_x : (v : ℕ) → v < get_or values x 0 → (l : ℕ) → EvenAt es l v
      before_x v h = at_x v (λ l y hl hy e. A.before l y hl (go y hy e (dec_lt y x)))
        where
          go : (y : ℕ) → y < r → get_or values y 0 ≡ v → Dec (y < x) → y < x
          go y hy e (yes g) = g
          go y hy e (no g) = absurd (not_below y hy e (omega arith) (dec_lt x y))
            where
              -- the rank of v is neither above x nor x
              not_below : (y : ℕ) → y < r → get_or values y 0 ≡ v → x ≤ y → Dec (x < y) → ⊥
              not_below y hy e g (yes u) = omega (arith, R.rising x y u hy)
              not_below y hy e g (no u) = omega (arith, ap (λ n. get_or values n 0) (same y g u))
                where
                  same : (y : ℕ) → x ≤ y → ¬ (x < y) → y ≡ x
                  same y a b = omega arith

      pub steps_open : OpenAt es (get_or values x 0)
      steps_open = record {
        layer = A.layer;
        eight = A.eight;
        uneven = column_uneven es A.layer (get_or values x 0) (λ u g. before_x u g A.layer) (λ e. A.uneven (even_down A.layer x open_low e));
        before = λ l i h. column_even es l i (λ u g. before_x u (omega arith) l);
      }

-- ---- an edge list

module _ (ns : List ℤ) (S : SoundList 7 limit ns) (layers ys xs values ends : List ℕ) (r : ℕ) (I : InSteps (map (lifted limit) (edges_of ns)) layers ys xs) (R : Ranks xs values ends r) (long_ends : length ends ≡ length xs) where
  abbrev steps : List (Edge ℕ)
  steps = map (lifted limit) (edges_of ns)

  layers_long : length layers ≡ length steps
  layers_long = ap length I.layers_are ∙ length-map steps layer_of

  two_ends : length ends ≡ length layers + length layers
  two_ends = omega (arith, long_ends, ap length I.xs_are, xs_long steps, layers_long)

  low_layers : (k : ℕ) → k < length layers → get_or layers k 0 < 8
  low_layers k h =
      omega (arith, ap (λ l. get_or l k 0) I.layers_are, layers_low limit (edges_of ns) S.sound k (omega (arith, layers_long, length-map (edges_of ns) (lifted limit))))

  low_ranks : (p : ℕ) → p < length ends → get_or ends p 0 < r
  low_ranks p h = R.low p (omega (arith, long_ends))

  ranked : Ranks (xs_of steps) values ends r
  ranked = subst (λ l. Ranks l values ends r) I.xs_are R

  pub test_ready : (n : ℕ) (c : List ℕ) → r ≤ n → n ≤ 8192 → length c ≡ 8 * n → ((p : ℕ) → p < length c → get_or c p 0 ≡ 8192) → TestOk layers ends n r c
  test_ready n c h few long fresh = record {
    two = two_ends;
    few = omega (arith, two_ends, layers_long, steps_long limit ns, S.few);
    eight = low_layers;
    ranks = low_ranks;
    within = h;
    rows_few = few;
    long = long;
    fresh = fresh;
  }

  pub list_closed : Answers (edges_by layers ends) (Ok tt) → ClosedList (edges_of ns)
  list_closed A = view_closed 7 limit (edges_of ns) S.sound (steps_closed steps layers ends values r I.layers_are two_ends ranked low_layers A)

  pub list_least : (x : ℕ) → Answers (edges_by layers ends) (Err (record { rank = x })) → OpenAt steps (get_or values x 0)
  list_least x A = steps_open steps layers ends values r I.layers_are two_ends ranked low_layers low_ranks x A

  pub list_open : (x : ℕ) → Answers (edges_by layers ends) (Err (record { rank = x })) → ClosedList (edges_of ns) → ⊥
  list_open x A h = open_not (list_least x A) (closed_view 7 limit (edges_of ns) S.sound h)
