-- One place more: what the sweep finds at the words of one height. Assumes nothing.
--
--   inside_is             after the first m words a strip's cover says which of its cells at j are inside
--   lines_more            ONE PLACE MORE: its line is read from the covers before and after its words
--   place_next            places start where `advance` stops, and at the end
--   lines_advanced        so after `advance` the line is read from the covers before and after it
use Rattle.std.specs.Prelude.{◌≡◌, refl, ◌≢◌, Bool, false, ◌&&◌, ◌-ℤ◌, length, take, drop}
use Rattle.std.proofs.Math.Path.{sym, ap, ap₂}
use Rattle.std.proofs.Common.{◌∙◌, subst, length-drop, length-take-le, get_or-take, get_or-drop, take-add, drop-cons}
use mathlib.Core.List.{List, [], ◌∷◌, ◌++◌, map, append-nil, append_assoc}
use Prim.Native.Nat.{ℕ, zero, suc, ◌+◌, ◌-◌, ◌/◌, ◌<◌, ◌≤◌}
use native.Mathlib.Omega.{arith}
use Rattle.std.proofs.Math.Decide.{dec_lt}
use Rattle.std.proofs.Math.Dec.{leb}
use Rattle.std.proofs.Math.IntN.{pos}
use Rattle.std.proofs.Math.ListN.{get_or, replicate, get_or-replicate}
use borrow.Author.Tests.{le-leb, lt-leb}
use Rattle.meaning.specs.Numbers.{bit, pick}
use Rattle.meaning.specs.Edges.{Edge, number, covers}
use Rattle.meaning.specs.Cells.{turn}
use Rattle.meaning.specs.Records.{Record}
use Rattle.basic_laws.specs.Bits.{of_bits_same}
use Rattle.basic_laws.specs.Lists.{all_of, all_to_map, map_append}
use Rattle.basic_laws.specs.Sums.{sum_map, number_sum}
use Rattle.basic_laws.specs.Tests.{pick_and}
use Rattle.sum_laws.specs.Sums.{Ascending}
use Rattle.sum_laws.specs.Laws.{prefix_sum, perm_refl, sum_same}
use Rattle.words.specs.Words.{value_of}
use Rattle.grid_laws.specs.Plane.{goes_west, goes_east, up_to_n, wests_n, easts_n, covers_n, inside_n, prior, level_n, record_at, line_over, each_of, kind_at}
use Rattle.strips.specs.Cover.{holds_of, look}
use Rattle.crossings.specs.declared.Touched.{Touched}
use Rattle.crossings.specs.Swept.{Swept, height_of, edge_of, edges_to, Advanced}
use Rattle.crossings.specs.OnlyOne.{swept_one, swept_fresh}
use Rattle.horizontal.specs.Words.{up_from}
use Rattle.horizontal.specs.Lines.{line_records}
use Rattle.sweep_laws.specs.Lines.{edge_by, edges_by, places, PlaceAt, lines_to}
use Rattle.sweep_laws.specs.Steps.{CutAt, line_same, places_more, up_all}

-- ---- the cells of a strip

module _ (base : ℕ) (ws layers ends : List ℕ) where
  -- a test that does not look at y
  up_to : (j m : ℕ) → CutAt base ws j m → (Q : Edge ℕ → Bool) → ((w : ℕ) → Q (edge_by base layers ends w) ≡ Q (edge_of layers ends w))
      → number (λ e. Q e && up_to_n j e) (edges_by base ws layers ends) ≡ number Q (edges_to ws layers ends m)
  unfolding edges_by edges_to up_to_n
  up_to j m C Q same =
      number_sum (λ e. Q e && up_to_n j e) (map (edge_by base layers ends) ws)
      ∙ sum_map (λ e. bit (Q e && up_to_n j e)) (edge_by base layers ends) ws
      ∙ sum_same _ (λ w. pick (leb (value_of base w) j) (bit (Q (edge_of layers ends w))) 0) ws 0
      (λ p h. ap (λ (b : Bool). bit (b && leb (value_of base (get_or ws p 0)) j)) (same (get_or ws p 0)) ∙ sym (pick_and (leb (value_of base (get_or ws p 0)) j) (Q (edge_of layers ends (get_or ws p 0)))))
      ∙ sym (prefix_sum ws ws m (λ w. leb (value_of base w) j) (λ w. bit (Q (edge_of layers ends w))) (perm_refl ws) C.fits (λ p h. le-leb _ _ (C.low p h)) (λ p h g. lt-leb _ _ (C.high p h g)))
      ∙ sym (sum_map (λ e. bit (Q e)) (edge_of layers ends) (take m ws))
      ∙ sym (number_sum Q (map (edge_of layers ends) (take m ws)))

  module _ (j m : ℕ) (C : CutAt base ws j m) (r l : ℕ) where
    wests_to : wests_n (edges_by base ws layers ends) l r j ≡ number (goes_west l r) (edges_to ws layers ends m)
    unfolding wests_n goes_west
    wests_to = up_to j m C (goes_west l r) (λ w. refl)

    easts_to : easts_n (edges_by base ws layers ends) l r j ≡ number (goes_east l r) (edges_to ws layers ends m)
    unfolding easts_n goes_east
    easts_to = up_to j m C (goes_east l r) (λ w. refl)

  pub inside_is : {n : ℕ} {c covering : List ℕ} (truth : List Bool) (j m : ℕ) → CutAt base ws j m → Swept n (edges_to ws layers ends m) c covering → (r : ℕ) → r < n
      → inside_n (holds_of truth) (edges_by base ws layers ends) r j ≡ look truth covering r
  unfolding inside_n holds_of covers_n
  inside_is truth j m C S r h =
      ap (λ (k : ℕ). get_or truth k false)
      (of_bits_same 8 _ _ (λ l _. ap₂ (λ (a b : ℕ). covers (pos a -ℤ pos b)) (wests_to j m C r l) (easts_to j m C r l)) ∙ sym (S.covers r h))

-- ---- one place more

each_append : {A : Type 0} (h : ℕ → List A) (ps qs : List ℕ) → each_of h (ps ++ qs) ≡ each_of h ps ++ each_of h qs
unfolding each_of
each_append h [] qs = refl
each_append h (p ∷ ps) qs = rw (each_append h ps qs) (sym (append_assoc (h p) (each_of h ps) (each_of h qs)))

module _ (base : ℕ) {ws : List ℕ} (up : Ascending ws) {g next : ℕ} (P : PlaceAt ws g) (more : g < next) (fits : next ≤ length ws)
    (here : (i : ℕ) → g ≤ i → i < next → height_of (get_or ws i 0) ≡ height_of (get_or ws g 0)) (Q : PlaceAt ws next) where
  abbrev at : ℕ
  at = value_of base (get_or ws g 0)

  before : (p : ℕ) → p < g → value_of base (get_or ws p 0) < at
  unfolding value_of
  before p h = omega (arith, P.above p h (omega arith))

  within : (p : ℕ) → g ≤ p → p < next → value_of base (get_or ws p 0) ≡ at
  unfolding value_of
  within p h l = omega (arith, here p h l)

  -- no word from `from` on is below that at `from`
  from_on : (from p : ℕ) → from ≤ p → p < length ws → value_of base (get_or ws from 0) ≤ value_of base (get_or ws p 0)
  unfolding value_of
  from_on from p h l = go (dec_lt from p)
    where
      go : Dec (from < p) → get_or ws from 0 / 8192 + base ≤ get_or ws p 0 / 8192 + base
      go (yes u) = omega (arith, up from p u l)
      go (no u) = let e : from ≡ p = omega arith in rw e (omega arith)

  after : next < length ws → at < value_of base (get_or ws next 0)
  unfolding value_of
  after h = omega (arith, Q.above g more h)

  cut_after : CutAt base ws at next
  cut_after = record {
    fits = fits;
    low = λ p h. low p h (dec_lt p g);
    high = λ p h l. omega (arith, from_on next p h l, after (omega arith));
  }
    where
      low : (p : ℕ) → p < next → Dec (p < g) → value_of base (get_or ws p 0) ≤ at
      low p h (yes u) = omega (arith, before p u)
      low p h (no u) = omega (arith, within p (omega arith) h)

  cut_before : (j : ℕ) → at ≡ suc j → CutAt base ws j g
  cut_before j e = record {
    fits = P.fits;
    low = λ p h. omega (arith, before p h);
    high = λ p h l. omega (arith, from_on g p h l);
  }

  places_are : places (map (value_of base) (take next ws)) ≡ places (map (value_of base) (take g ws)) ++ (at ∷ [])
  places_are =
      ap (λ (vs : List ℕ). places (map (value_of base) vs)) split
      ∙ ap places (map_append (value_of base) (take g ws) (get_or ws g 0 ∷ take (next - suc g) (drop (suc g) ws)))
      ∙ places_more at (map (value_of base) (take g ws)) (map (value_of base) (take (next - suc g) (drop (suc g) ws)))
      (all_to_map (λ v. v < at) (value_of base) (take g ws) (all_of _ (take g ws) 0 (λ k h. let u : k < g = omega (arith, length-take-le g ws P.fits) in rw (get_or-take g ws k 0 u) (before k u))))
      (all_to_map (λ v. v ≡ at) (value_of base) (take (next - suc g) (drop (suc g) ws)) (all_of _ (take (next - suc g) (drop (suc g) ws)) 0 (λ k h.
      let u : k < next - suc g = omega (arith, long) in
      rw (get_or-take (next - suc g) (drop (suc g) ws) k 0 u, get_or-drop (suc g) ws k 0) (within (suc g + k) (omega arith) (omega arith)))))
    where
      long : length (take (next - suc g) (drop (suc g) ws)) ≡ next - suc g
      long = length-take-le (next - suc g) (drop (suc g) ws) (omega (arith, length-drop (suc g) ws))

      split : take next ws ≡ take g ws ++ get_or ws g 0 ∷ take (next - suc g) (drop (suc g) ws)
      split =
          let e : next ≡ g + suc (next - suc g) = omega arith in
          ap (λ (k : ℕ). take k ws) e ∙ take-add g (suc (next - suc g)) ws ∙ ap (λ (vs : List ℕ). take g ws ++ take (suc (next - suc g)) vs) (drop-cons ws g 0 (omega arith))

  module _ (layers ends : List ℕ) (truth : List Bool) (empty : get_or truth 0 false ≡ false) {n nx : ℕ} {c₀ m₀ c m : List ℕ} (low : nx ≤ n)
      (S₀ : Swept n (edges_to ws layers ends g) c₀ m₀) (S : Swept n (edges_to ws layers ends next) c m) where
    -- the cells just below the line
    below : (r : ℕ) → r < n → (v : ℕ) → at ≡ v → prior (inside_n (holds_of truth) (edges_by base ws layers ends) r) v ≡ look truth m₀ r
    unfolding value_of
    below r h zero e =
        let first : g ≡ 0 = none (dec_lt 0 g) in
        let fresh : m₀ ≡ replicate n 0 = (swept_one (subst (λ (k : ℕ). Swept n (edges_to ws layers ends k) c₀ m₀) first S₀) (swept_fresh n ws layers ends)).1 in
        sym (ap (λ (k : ℕ). get_or truth k false) (ap (λ (ms : List ℕ). get_or ms r 0) fresh ∙ get_or-replicate {A = ℕ} n r 0 0 h) ∙ empty)
      where
        none : Dec (0 < g) → g ≡ 0
        none (yes u) = let z : ⊥ = omega (arith, P.above 0 u (omega arith)) in absurd z
        none (no u) = omega arith
    below r h (suc j) e = inside_is base ws layers ends truth j g (cut_before j e) S₀ r h

    pub lines_more : lines_to base ws layers ends truth nx next ≡ lines_to base ws layers ends truth nx g ++ line_records (value_of base (get_or ws g 0)) nx (look truth m₀) (look truth m)
    unfolding lines_to kind_at line_records each_of level_n
    lines_more =
        ap (each_of line) places_are
        ∙ each_append line (places (map (value_of base) (take g ws))) (at ∷ [])
        ∙ ap (λ (rs : List (Record ℕ)). each_of line (places (map (value_of base) (take g ws))) ++ rs)
        (append-nil (line at)
        ∙ ap (map (record_at 0 at)) (line_same _ _ (up_from 0 nx) (up_all _ 0 nx (λ r h. ap₂ turn (below r (omega arith) at refl) (inside_is base ws layers ends truth at next cut_after S r (omega arith))))))
      where
        line : ℕ → List (Record ℕ)
        line y = map (record_at 0 y) (line_over (level_n (inside_n (holds_of truth) (edges_by base ws layers ends)) y) (up_from 0 nx))

-- ---- where places start

module _ {n : ℕ} {ws layers ends : List ℕ} {g : ℕ} {c₀ c m₀ m : List ℕ} {t : Touched} (up : Ascending ws) (A : Advanced n ws layers ends g c₀ c m₀ m t) where
  pub place_next : PlaceAt ws t.next
  place_next = record { fits = A.fits; above = λ p h l. above p h l (dec_lt p g) }
    where
      above : (p : ℕ) → suc p ≤ t.next → t.next < length ws → Dec (p < g) → height_of (get_or ws p 0) < height_of (get_or ws t.next 0)
      above p h l d =
          let u : get_or ws g 0 ≤ get_or ws t.next 0 = up g t.next A.more l in
          let v : height_of (get_or ws t.next 0) ≢ height_of (get_or ws g 0) = A.stop l in
          let b : height_of (get_or ws p 0) ≤ height_of (get_or ws g 0) = below d in
          omega arith
        where
          below : Dec (p < g) → height_of (get_or ws p 0) ≤ height_of (get_or ws g 0)
          below (yes u) = omega (arith, up p g u (omega (arith, A.more)))
          below (no u) = omega (arith, A.here p (omega arith) h)

  pub lines_advanced : (base : ℕ) (truth : List Bool) {nx : ℕ} → PlaceAt ws g → Swept n (edges_to ws layers ends g) c₀ m₀ → get_or truth 0 false ≡ false → nx ≤ n
      → lines_to base ws layers ends truth nx t.next ≡ lines_to base ws layers ends truth nx g ++ line_records (value_of base (get_or ws g 0)) nx (look truth m₀) (look truth m)
  lines_advanced base truth P S₀ empty low = lines_more base up P A.more A.fits A.here place_next layers ends truth empty low S₀ A.swept
