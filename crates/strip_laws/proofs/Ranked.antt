-- THE JOIN: the plane of the edges by ranks is the plane of the edges in steps, at the x of each rank. Assumes nothing.
--
--   strip_spans     an end's rank is beside a strip as the end is beside its columns
--   strip_at        the x of a rank is in its strip
--   words_are       what is counted over the words is counted over the edges
--   west_word, east_word     a word's edge spans a strip as the edge spans its columns
--   wests_ranked, easts_ranked   the edges at or below j that span a strip are those that span its columns
--   inside_ranked   so a strip's cells at j are inside where those of its columns are
--   plane_ranked    at the x of each rank
use Rattle.std.specs.Prelude.{◌≡◌, refl, Bool, List, map, ℕ, ◌+◌, ◌%◌, ◌<◌, ◌≤◌, leb, eqb, ◌-ℤ◌, length, get_or}
use Rattle.std.proofs.Math.Path.{sym, ap, ap₂, fun_ext}
use Rattle.std.proofs.Common.{◌∙◌, arith}
use Rattle.std.proofs.Math.Bool.{◌&&◌, not}
use Rattle.std.proofs.Math.Decide.{dec_lt, ℕ_discrete}
use Rattle.std.proofs.Math.IntN.{pos}
use Rattle.std.proofs.lemmas.List.{length-map}
use Rattle.meaning.specs.Numbers.{bit}
use Rattle.meaning.specs.Edges.{Edge, edge, number, covers}
use Rattle.basic_laws.specs.Fours.{layer_of, y_of, from_of, to_of}
use Rattle.basic_laws.specs.Lists.{map_at}
use Rattle.basic_laws.specs.Sums.{sum_map, number_sum}
use Rattle.basic_laws.specs.Tests.{spans, not_leb, leb_same}
use Rattle.sum_laws.specs.Sums.{sum_to}
use Rattle.sum_laws.specs.Laws.{sum_same, sum_is}
use Rattle.words.specs.Words.{place_of, value_of}
use Rattle.grid_laws.specs.Plane.{goes_west, goes_east, up_to_n, wests_n, easts_n, covers_n, inside_n}
use Rattle.axis.specs.Axes.{Ranks}
use Rattle.sweep_laws.specs.Lines.{edge_by, edges_by}
use Rattle.strip_laws.specs.Ordered.{no_edge, Ordered, Strip}
use Rattle.strip_laws.specs.Ranked.{edge_as}

-- ---- ranks are ordered as their numbers

module _ {xs values ends : List ℕ} {r : ℕ} (R : Ranks xs values ends r) {s i : ℕ} (T : Strip values r s i) where
  rank_beside : (t : ℕ) → t < r → leb (get_or values t 0) i ≡ leb t s
  rank_beside t h = leb_same (get_or values t 0) i t s to back
    where
      to : get_or values t 0 ≤ i → t ≤ s
      to u = go (dec_lt s t) (ℕ_discrete t (s + 1))
        where
          go : Dec (s < t) → Dec (t ≡ s + 1) → t ≤ s
          go (no v) w = omega arith
          go (yes v) (yes w) = let z : ⊥ = omega (arith, T.to (omega arith), ap (λ (k : ℕ). get_or values k 0) w) in absurd z
          go (yes v) (no w) = let z : ⊥ = omega (arith, T.to (omega arith), R.rising (s + 1) t (omega arith) h) in absurd z

      back : t ≤ s → get_or values t 0 ≤ i
      back u = go (ℕ_discrete t s)
        where
          go : Dec (t ≡ s) → get_or values t 0 ≤ i
          go (yes w) = omega (arith, T.from, ap (λ (k : ℕ). get_or values k 0) w)
          go (no w) = omega (arith, T.from, R.rising t s (omega arith) T.there)

  pub strip_spans : (f t : ℕ) → f < r → t < r → spans f t s ≡ spans (get_or values f 0) (get_or values t 0) i
  unfolding spans
  strip_spans f t hf ht = ap₂ ◌&&◌ (sym (rank_beside f hf)) (not_leb s t ∙ ap not (sym (rank_beside t ht)) ∙ sym (not_leb i (get_or values t 0)))

pub strip_at : {xs values ends : List ℕ} {r : ℕ} → Ranks xs values ends r → (s : ℕ) → s < r → Strip values r s (get_or values s 0)
strip_at R s h = record { there = h; from = omega arith; to = λ l. R.rising s (s + 1) (omega arith) l }

-- ---- an edge by its parts

west_parts : (c i : ℕ) (e : Edge ℕ) → goes_west c i e ≡ (eqb (layer_of e) c && spans (to_of e) (from_of e) i)
unfolding goes_west
west_parts c i (edge l y f t) = refl

east_parts : (c i : ℕ) (e : Edge ℕ) → goes_east c i e ≡ (eqb (layer_of e) c && spans (from_of e) (to_of e) i)
unfolding goes_east
east_parts c i (edge l y f t) = refl

up_parts : (j : ℕ) (e : Edge ℕ) → up_to_n j e ≡ leb (y_of e) j
unfolding up_to_n
up_parts j (edge l y f t) = refl

module _ {base : ℕ} {es : List (Edge ℕ)} {ws layers xs ends values : List ℕ} {r : ℕ} (O : Ordered base es ws layers xs ends values r) where
  as_many : length (map y_of es) ≡ length es
  as_many = length-map es y_of

  pub long_words : length ws ≡ length es
  long_words = O.order.places.long ∙ as_many

  pub known : (p : ℕ) → p < length ws → get_or ws p 0 % 8192 < length es
  unfolding place_of
  known p h = omega (arith, O.order.places.low p (omega (arith, O.order.places.long)), as_many)

  pub height : (p : ℕ) → p < length ws → value_of base (get_or ws p 0) ≡ y_of (get_or es (get_or ws p 0 % 8192) no_edge)
  unfolding place_of
  height p h = O.order.holds p h ∙ map_at y_of es (get_or ws p 0 % 8192) no_edge 0 (known p h)

  -- an end of edge k: its rank, and the number there
  module _ (k : ℕ) (h : k < length es) where
    pub from_rank : get_or ends (k + k) 0 < r
    from_rank = O.ranked.low (k + k) (omega (arith, O.long))

    pub to_rank : get_or ends (k + k + 1) 0 < r
    to_rank = O.ranked.low (k + k + 1) (omega (arith, O.long))

    from_value : get_or values (get_or ends (k + k) 0) 0 ≡ from_of (get_or es k no_edge)
    from_value = O.ranked.is (k + k) (omega (arith, O.long)) ∙ (O.sides k h).0

    to_value : get_or values (get_or ends (k + k + 1) 0) 0 ≡ to_of (get_or es k no_edge)
    to_value = O.ranked.is (k + k + 1) (omega (arith, O.long)) ∙ (O.sides k h).1

  -- a test of what is made of the words that agrees with one of the edges
  pub words_are : (make : ℕ → Edge ℕ) (Q P : Edge ℕ → Bool) → ((p : ℕ) → p < length ws → Q (make (get_or ws p 0)) ≡ P (get_or es (get_or ws p 0 % 8192) no_edge)) → number Q (map make ws) ≡ number P es
  unfolding place_of
  words_are make Q P agree =
      number_sum Q (map make ws)
      ∙ sum_map (λ x. bit (Q x)) make ws
      ∙ sum_same (λ w. bit (Q (make w))) (λ w. bit (P (get_or es (place_of w) no_edge))) ws 0 (λ p h. ap bit (agree p h))
      ∙ O.order.places.once (λ k. bit (P (get_or es k no_edge)))
      ∙ ap (λ (n : ℕ). sum_to n (λ k. bit (P (get_or es k no_edge)))) as_many
      ∙ sym (sum_is (λ e. bit (P e)) es no_edge)
      ∙ sym (number_sum P es)

  module _ (s i : ℕ) (T : Strip values r s i) (l : ℕ) where
    pub west_word : (y p : ℕ) → p < length ws → goes_west l s (edge_as y layers ends (get_or ws p 0)) ≡ goes_west l i (get_or es (get_or ws p 0 % 8192) no_edge)
    west_word y p h =
        let g : get_or ws p 0 % 8192 < length es = known p h in
        west_parts l s _
        ∙ ap₂ (λ (a : ℕ) (b : Bool). eqb a l && b) (O.layer (get_or ws p 0 % 8192) g)
        (strip_spans O.ranked T _ _ (to_rank (get_or ws p 0 % 8192) g) (from_rank (get_or ws p 0 % 8192) g)
        ∙ ap₂ (λ (a b : ℕ). spans a b i) (to_value (get_or ws p 0 % 8192) g) (from_value (get_or ws p 0 % 8192) g))
        ∙ sym (west_parts l i (get_or es (get_or ws p 0 % 8192) no_edge))

    pub east_word : (y p : ℕ) → p < length ws → goes_east l s (edge_as y layers ends (get_or ws p 0)) ≡ goes_east l i (get_or es (get_or ws p 0 % 8192) no_edge)
    east_word y p h =
        let g : get_or ws p 0 % 8192 < length es = known p h in
        east_parts l s _
        ∙ ap₂ (λ (a : ℕ) (b : Bool). eqb a l && b) (O.layer (get_or ws p 0 % 8192) g)
        (strip_spans O.ranked T _ _ (from_rank (get_or ws p 0 % 8192) g) (to_rank (get_or ws p 0 % 8192) g)
        ∙ ap₂ (λ (a b : ℕ). spans a b i) (from_value (get_or ws p 0 % 8192) g) (to_value (get_or ws p 0 % 8192) g))
        ∙ sym (east_parts l i (get_or es (get_or ws p 0 % 8192) no_edge))

    up_word : (j p : ℕ) → p < length ws → up_to_n j (edge_by base layers ends (get_or ws p 0)) ≡ up_to_n j (get_or es (get_or ws p 0 % 8192) no_edge)
    up_word j p h = up_parts j (edge_by base layers ends (get_or ws p 0)) ∙ ap (λ (y : ℕ). leb y j) (height p h) ∙ sym (up_parts j (get_or es (get_or ws p 0 % 8192) no_edge))

    pub wests_ranked : (j : ℕ) → wests_n (edges_by base ws layers ends) l s j ≡ wests_n es l i j
    unfolding wests_n edges_by
    wests_ranked j =
        words_are (edge_by base layers ends) (λ e. goes_west l s e && up_to_n j e) (λ e. goes_west l i e && up_to_n j e)
        (λ p h. ap₂ ◌&&◌ (west_word (value_of base (get_or ws p 0)) p h) (up_word j p h))

    pub easts_ranked : (j : ℕ) → easts_n (edges_by base ws layers ends) l s j ≡ easts_n es l i j
    unfolding easts_n edges_by
    easts_ranked j =
        words_are (edge_by base layers ends) (λ e. goes_east l s e && up_to_n j e) (λ e. goes_east l i e && up_to_n j e)
        (λ p h. ap₂ ◌&&◌ (east_word (value_of base (get_or ws p 0)) p h) (up_word j p h))

  pub inside_ranked : (holds : (ℕ → Bool) → Bool) (s i : ℕ) → Strip values r s i → (j : ℕ) → inside_n holds (edges_by base ws layers ends) s j ≡ inside_n holds es i j
  unfolding inside_n covers_n
  inside_ranked holds s i T j = ap holds (fun_ext (λ l. ap₂ (λ (a b : ℕ). covers (pos a -ℤ pos b)) (wests_ranked s i T l j) (easts_ranked s i T l j)))

  pub plane_ranked : (holds : (ℕ → Bool) → Bool) (s : ℕ) → s < r → (j : ℕ) → inside_n holds (edges_by base ws layers ends) s j ≡ inside_n holds es (get_or values s 0) j
  plane_ranked holds s h j = inside_ranked holds s (get_or values s 0) (strip_at O.ranked s h) j
