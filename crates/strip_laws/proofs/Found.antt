-- WHAT THE SWEEP FINDS: the horizontals by ranks of all words are those of the plane in steps, and weigh its cells. Assumes nothing.
--
--   ys_are                      the places of the words are the y of the edges
--   values_rise, values_are     the distinct x rise, and are the x of the edges
--   horizontals_are             the lines of all words are the horizontals of the plane, by ranks
--   area_found                  a wrapping sum of their weights is the number of inside cells
use Rattle.std.specs.Prelude.{◌≡◌, refl, Bool, false, take}
use Rattle.std.proofs.Math.Path.{sym, ap, fun_ext}
use Rattle.std.proofs.Common.{◌∙◌, subst, arith, zero-add, length-take-le, get_or-take}
use mathlib.Core.List.{List, map}
use Prim.Native.Nat.{ℕ, zero, ◌+◌, ◌^◌, ◌<◌, ◌≤◌}
use Rattle.std.proofs.Math.ListN.{length, get_or, length-map}
use Rattle.std.proofs.Math.Seq.{take-length}
use Rattle.meaning.specs.Edges.{Edge}
use Rattle.meaning.specs.Cells.{Dir, turn}
use Rattle.meaning.specs.Records.{Record}
use Rattle.basic_laws.specs.Bits.{of_bits}
use Rattle.basic_laws.specs.Fours.{y_of}
use Rattle.basic_laws.specs.Lists.{All, all_map, map_at}
use Rattle.basic_laws.specs.Sums.{sum_of}
use Rattle.words.specs.Words.{place_of, value_of, value_word, value_up}
use Rattle.grid_laws.specs.Plane.{inside_n, prior, level_n, record_at, each_of, kind_at, xs_of, ys_of}
use Rattle.grid_laws.specs.Places.{has, none_past, Rising}
use Rattle.grid_laws.specs.AreaLaws.{plus, minus, cells_n}
use Rattle.grid_laws.specs.Wrap.{Owes, area_wraps}
use Rattle.rank_laws.specs.Ranks.{rising_of, has_same}
use Rattle.strips.specs.Cover.{holds_of}
use Rattle.horizontal.specs.Words.{up_from, on_level}
use Rattle.vertical_laws.specs.Whole.{Horizontals}
use Rattle.vertical_laws.specs.Table.{table_horizontals}
use Rattle.sweep_laws.specs.Lines.{edges_by, places, lines_to}
use Rattle.sweep_laws.specs.Steps.{line_same, up_all}
use Rattle.strip_laws.specs.Ordered.{EdgesOk, Ordered}
use Rattle.strip_laws.proofs.Ranked.{plane_ranked}
use Rattle.strip_laws.specs.Found.{edges_xs, edges_ys, places_has, places_rising}

-- directions that agree at the break points
kind_same : (kind : ℕ) (F G : ℕ → ℕ → Dir) (ps bs : List ℕ) → All (λ b. (p : ℕ) → F p b ≡ G p b) bs → kind_at kind F ps bs ≡ kind_at kind G ps bs
unfolding kind_at
kind_same kind F G ps bs h =
    ap (λ (line : ℕ → List (Record ℕ)). each_of line ps) (fun_ext (λ p. ap (map (record_at kind p)) (line_same (F p) (G p) bs (all_map _ _ bs (λ b e. e p) h))))

-- what all horizontals weigh
weighed_cells : {g : ℕ → ℕ → Bool} {vx : List ℕ} {hs : List (Record ℕ)} → Horizontals 2147483648 g vx hs → (sum : ℕ) → sum < 2 ^ 64
    → ((P M : ℕ) → Owes 0 P M → Owes sum (P + sum_of plus (map (on_level vx) hs)) (M + sum_of minus (map (on_level vx) hs))) → sum ≡ cells_n 2147483648 g
weighed_cells {g} {vx} {hs} H sum h weighed =
    let o : Owes sum (sum_of plus (map (on_level vx) hs)) (sum_of minus (map (on_level vx) hs)) = rw (zero-add (sum_of plus (map (on_level vx) hs)), zero-add (sum_of minus (map (on_level vx) hs))) at (weighed 0 0 refl) in
    area_wraps 2147483648 g (omega arith) (λ i. H.bounded.top i 2147483648 (omega arith)) sum h (subst (λ (rs : List (Record ℕ)). Owes sum (sum_of plus rs) (sum_of minus rs)) H.are o)

module _ {base : ℕ} {es : List (Edge ℕ)} {ws layers xs ends values : List ℕ} {r : ℕ} (O : Ordered base es ws layers xs ends values r) where
  -- ---- the words' places

  abbrev ys : List ℕ
  ys = places (map (value_of base) (take (length ws) ws))

  all_words : map (value_of base) (take (length ws) ws) ≡ map (value_of base) ws
  all_words = ap (map (value_of base)) (take-length ws)

  ys_rise : Rising zero ys
  ys_rise = rw all_words (places_rising (map (value_of base) ws) (λ p q h l.
      let u : q < length ws = omega (arith, length-map ws (value_of base)) in
      rw (map_at (value_of base) ws p 0 0 (omega arith), map_at (value_of base) ws q 0 0 u) (value_up base _ _ (O.order.ascending p q h u))))

  pub ys_are : length es ≤ 4096 → (v : ℕ) → has v (ys_of es) ≡ has v ys
  unfolding place_of
  ys_are few v =
      ap (has v) (edges_ys es)
      ∙ has_same v (map y_of es) (map (value_of base) ws)
      (λ m.
      let i : m.place < length es = omega (arith, m.within, length-map es y_of) in
      let w = O.order.word m.place m.within in record {
        place = w.place;
        within = omega (arith, w.within, length-map ws (value_of base));
        is = map_at (value_of base) ws w.place 0 0 w.within ∙ value_word base (get_or (map y_of es) m.place 0) m.place (get_or ws w.place 0) (omega arith) (O.order.low m.place m.within) w.is ∙ m.is;
      })
      (λ m.
      let u : m.place < length ws = omega (arith, m.within, length-map ws (value_of base)) in record {
        place = place_of (get_or ws m.place 0);
        within = O.order.places.low m.place (omega (arith, O.order.places.long));
        is = sym (O.order.holds m.place u) ∙ sym (map_at (value_of base) ws m.place 0 0 u) ∙ m.is;
      })
      ∙ sym (ap (λ (vs : List ℕ). has v (places vs)) all_words ∙ places_has v (map (value_of base) ws))

  -- ---- the distinct x

  pub values_long : length (take r values) ≡ r
  values_long = length-take-le r values O.ranked.within

  value_at : (k : ℕ) → k < r → get_or (take r values) k 0 ≡ get_or values k 0
  value_at k h = get_or-take r values k 0 h

  pub values_rise : Rising zero (take r values)
  values_rise = rising_of (take r values) (λ p q h l. let u : q < r = omega (arith, values_long) in omega (arith, value_at p (omega arith), value_at q u, O.ranked.rising p q h u))

  pub values_are : (v : ℕ) → has v (xs_of es) ≡ has v (take r values)
  values_are v =
      ap (has v) (edges_xs es xs O.long O.sides)
      ∙ has_same v xs (take r values)
      (λ m. record {
        place = get_or ends m.place 0;
        within = omega (arith, values_long, O.ranked.low m.place m.within);
        is = value_at (get_or ends m.place 0) (O.ranked.low m.place m.within) ∙ O.ranked.is m.place m.within ∙ m.is;
      })
      (λ m.
      let u : m.place < r = omega (arith, m.within, values_long) in
      let k = O.ranked.every m.place u in
      record { place = k.place; within = k.within; is = k.is ∙ sym (value_at m.place u) ∙ m.is })

  -- ---- what is found

  module _ (S : EdgesOk es) (truth : List Bool) (empty : get_or truth 0 false ≡ false) (vx : List ℕ) (are : vx ≡ take r values) where
    holds_none : holds_of truth (λ c. false) ≡ false
    unfolding holds_of of_bits
    holds_none = empty

    abbrev g : ℕ → ℕ → Bool
    g = inside_n (holds_of truth) es

    long_x : r ≡ length vx
    long_x = sym (ap length are ∙ values_long)

    at_rank : (s : ℕ) → s < r → (y : ℕ) → level_n (inside_n (holds_of truth) (edges_by base ws layers ends)) y s ≡ level_n g y (get_or vx s 0)
    unfolding level_n
    at_rank s h y =
        ap (λ (col : ℕ → Bool). turn (prior col y) (col y)) (fun_ext (λ j. plane_ranked O (holds_of truth) s h j
        ∙ ap (λ (i : ℕ). inside_n (holds_of truth) es i j) (sym (ap (λ (vs : List ℕ). get_or vs s 0) are ∙ value_at s h))))

    lines_are : lines_to base ws layers ends truth r (length ws) ≡ kind_at 0 (λ y s. level_n g y (get_or vx s 0)) ys (up_from 0 (length vx))
    unfolding lines_to
    lines_are =
        kind_same 0 (level_n (inside_n (holds_of truth) (edges_by base ws layers ends))) (λ y s. level_n g y (get_or vx s 0)) ys (up_from 0 r) (up_all _ 0 r (λ s h. at_rank s (omega arith)))
        ∙ ap (λ (n : ℕ). kind_at 0 (λ y s. level_n g y (get_or vx s 0)) ys (up_from 0 n)) long_x

    pub horizontals_are : Horizontals 2147483648 (inside_n (holds_of truth) es) vx (lines_to base ws layers ends truth r (length ws))
    horizontals_are =
        subst (Horizontals 2147483648 g vx) (sym lines_are)
        (table_horizontals (holds_of truth) holds_none es S.closed 2147483648
        (none_past 2147483648 (xs_of es) S.range_x) (none_past 2147483648 (ys_of es) S.range_y) vx ys (rw are values_rise) ys_rise (λ v. values_are v ∙ ap (has v) (sym are)) (ys_are S.few))

    pub area_found : (sum : ℕ) → sum < 2 ^ 64
        → ((P M : ℕ) → Owes 0 P M → Owes sum (P + sum_of plus (map (on_level vx) (lines_to base ws layers ends truth r (length ws)))) (M + sum_of minus (map (on_level vx) (lines_to base ws layers ends truth r (length ws)))))
        → sum ≡ cells_n 2147483648 (inside_n (holds_of truth) es)
    area_found sum h weighed = weighed_cells horizontals_are sum h weighed
