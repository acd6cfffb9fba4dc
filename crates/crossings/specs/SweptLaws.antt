-- One edge more. Assumes nothing.
--
--   one_edge      what an edge adds to a strip's count
--   swept_more    the rows after one edge more
--   edges_more    the first e + 1 edges
--   edges_few     no test counts more than e of the first e
use Rattle.std.specs.Prelude.{◌≡◌, refl, ◌≢◌, Bool, true, false, List, map, ℕ, ◌+◌, ◌<◌, ◌≤◌, ltb, pos, ◌-ℤ◌, length, get_or, take}
use Rattle.std.proofs.Common.{sym, ap, ap₂, ◌∙◌, arith, length-take-le, eq-eqb, ne_eqb, lt-ltb, le-ltb}
use Rattle.std.proofs.Math.Decide.{dec_lt, ℕ_discrete}
use Rattle.meaning.specs.Numbers.{bit, pick}
use Rattle.meaning.specs.Edges.{Edge, edge, number, covers}
use Rattle.basic_laws.specs.Bits.{of_bits, of_bits_same}
use Rattle.basic_laws.specs.Sums.{sum_of, sum_map, number_sum}
use Rattle.basic_laws.specs.Tests.{bit_le, spans, spans_in, spans_below, spans_above, spans_empty, Place, below, within, above, place}
use Rattle.sum_laws.specs.Laws.{sum_take, sum_le}
use Rattle.grid_laws.specs.Covering.{covers_same}
use Rattle.grid_laws.specs.Plane.{goes_west, goes_east}
use Rattle.strips.specs.Rows.{row_at}
use Rattle.strips.specs.Cover.{turned_to}
use Rattle.strips.specs.CoverLaws.{turned_no}
use Rattle.strips.specs.Strips.{Taken, lower, upper, CrossOk, Crossed}
use Rattle.strips.specs.StripLaws.{row_in, row_out}
use Rattle.crossings.specs.Swept.{covers_by, Swept, edge_of, edges_to}

-- ---- one edge

other_west : (l k r y f t : ℕ) → k ≢ l → goes_west k r (edge l y f t) ≡ false
unfolding goes_west
other_west l k r y f t d = rw (ne_eqb l k (λ e. d (sym e)))

other_east : (l k r y f t : ℕ) → k ≢ l → goes_east k r (edge l y f t) ≡ false
unfolding goes_east
other_east l k r y f t d = rw (ne_eqb l k (λ e. d (sym e)))

same_west : (l r y f t : ℕ) → goes_west l r (edge l y f t) ≡ spans t f r
unfolding goes_west
same_west l r y f t = rw (eq-eqb l l refl)

same_east : (l r y f t : ℕ) → goes_east l r (edge l y f t) ≡ spans f t r
unfolding goes_east
same_east l r y f t = rw (eq-eqb l l refl)

-- the layer's own count
own_count : {n l f t : ℕ} {c m c' m' : List ℕ} → CrossOk n l f t c m → Crossed n l f t c c' m m' → (r : ℕ) → r < n → row_at n c' l r + bit (spans f t r) ≡ row_at n c l r + bit (spans t f r)
own_count {n} {l} {f} {t} {c} {m} {c'} {m'} ok T r hr = go (dec_lt t f)
  where
    west : t < f → Taken n l t f 8193 c c' m m' → Place t f r → row_at n c' l r + bit (spans f t r) ≡ row_at n c l r + bit (spans t f r)
    west u W (below p) = rw (spans_empty f t r (omega arith), spans_below t f r p) (omega (arith, row_out W ok.from l r hr (λ _ v _. let z : ⊥ = omega arith in absurd z)))
    west u W (within p q) = rw (spans_empty f t r (omega arith), spans_in t f r p q) (omega (arith, row_in W ok.from r p q))
    west u W (above p q) = rw (spans_empty f t r (omega arith), spans_above t f r q) (omega (arith, row_out W ok.from l r hr (λ _ _ v. let z : ⊥ = omega arith in absurd z)))

    east : f ≤ t → Taken n l f t 8191 c c' m m' → Place f t r → row_at n c' l r + bit (spans f t r) ≡ row_at n c l r + bit (spans t f r)
    east u E (below p) = rw (spans_empty t f r u, spans_below f t r p) (omega (arith, row_out E ok.to l r hr (λ _ v _. let z : ⊥ = omega arith in absurd z)))
    east u E (within p q) = rw (spans_empty t f r u, spans_in f t r p q) (omega (arith, row_in E ok.to r p q, ok.low r hr))
    east u E (above p q) = rw (spans_empty t f r u, spans_above f t r q) (omega (arith, row_out E ok.to l r hr (λ _ _ v. let z : ⊥ = omega arith in absurd z)))

    go : Dec (t < f) → row_at n c' l r + bit (spans f t r) ≡ row_at n c l r + bit (spans t f r)
    go (yes u) = west u (rw (lt-ltb t f u) at T) (place t f r)
    go (no u) = let v : f ≤ t = omega arith in east v (rw (le-ltb t f v) at T) (place f t r)

upper_top : {n l f t : ℕ} {c m : List ℕ} → CrossOk n l f t c m → upper f t ≤ n
upper_top {n} {l} {f} {t} ok = go (ltb t f)
  where
    go : (b : Bool) → pick b f t ≤ n
    go true = ok.from
    go false = ok.to

module _ {n l f t : ℕ} {c m c' m' : List ℕ} (ok : CrossOk n l f t c m) (T : Crossed n l f t c c' m m') (y : ℕ) where
  pub one_edge : (k r : ℕ) → r < n → row_at n c' k r + bit (goes_east k r (edge l y f t)) ≡ row_at n c k r + bit (goes_west k r (edge l y f t))
  one_edge k r hr = go (ℕ_discrete k l)
    where
      go : Dec (k ≡ l) → row_at n c' k r + bit (goes_east k r (edge l y f t)) ≡ row_at n c k r + bit (goes_west k r (edge l y f t))
      go (yes e) = rw (e, same_west l r y f t, same_east l r y f t) (own_count ok T r hr)
      go (no d) = rw (other_west l k r y f t d, other_east l k r y f t d) (omega (arith, row_out T (upper_top ok) k r hr (λ e _ _. d e)))

  -- ---- the rows after one edge more: es' is es with it
  module _ {es : List (Edge ℕ)} (es' : List (Edge ℕ)) (S : Swept n es c m) (more : (p : Edge ℕ → Bool) → number p es' ≡ number p es + bit (p (edge l y f t))) where
    counts_more : (k r : ℕ) → k < 8 → r < n → row_at n c' k r + number (goes_east k r) es' ≡ 8192 + number (goes_west k r) es'
    counts_more k r hk hr = omega (arith, one_edge k r hr, S.counts k r hk hr, more (goes_east k r), more (goes_west k r))

    cover_same : (k r : ℕ) → k < 8 → r < n → row_at n c' k r ≡ row_at n c k r → covers_by es' r k ≡ covers_by es r k
    cover_same k r hk hr e =
        covers_same (number (goes_west k r) es') (number (goes_east k r) es') (number (goes_west k r) es) (number (goes_east k r) es) (omega (arith, counts_more k r hk hr, S.counts k r hk hr))

    covers_more : (r : ℕ) → r < n → Dec (r < lower f t) → Dec (r < upper f t) → get_or m' r 0 ≡ of_bits 8 (covers_by es' r)
    covers_more r hr (yes u) v =
        T.digits.same r (λ w _. let z : ⊥ = omega arith in absurd z) ∙ S.covers r hr
        ∙ of_bits_same 8 _ _ (λ k hk. sym (cover_same k r hk hr (row_out T (upper_top ok) k r hr (λ _ w _. let z : ⊥ = omega arith in absurd z))))
    covers_more r hr (no u) (no v) =
        T.digits.same r (λ _ w. v w) ∙ S.covers r hr
        ∙ of_bits_same 8 _ _ (λ k hk. sym (cover_same k r hk hr (row_out T (upper_top ok) k r hr (λ _ _ w. v w))))
    covers_more r hr (no u) (yes v) =
        T.digits.made r (omega arith) v
        ∙ ap₂ (λ (x y : ℕ). turned_to x l y) (S.covers r hr)
        (ap (λ (x : ℕ). bit (covers (pos x -ℤ pos 8192))) (sym (row_in T (upper_top ok) r (omega arith) v))
        ∙ ap bit (covers_same (row_at n c' l r) 8192 (number (goes_west l r) es') (number (goes_east l r) es') (omega (arith, counts_more l r ok.layer hr))))
        ∙ turned_no (covers_by es r) (covers_by es' r) l ok.layer (λ k hk d. cover_same k r hk hr (row_out T (upper_top ok) k r hr (λ e _ _. d e)))

    pub swept_more : Swept n es' c' m'
    swept_more = record {
      long = T.counts.long ∙ S.long;
      long_covers = T.digits.long ∙ S.long_covers;
      counts = counts_more;
      covers = λ r hr. covers_more r hr (dec_lt r (lower f t)) (dec_lt r (upper f t));
    }

-- ---- the edges in their order

pub edges_more : (ws layers ends : List ℕ) (e : ℕ) (p : Edge ℕ → Bool) → e < length ws → number p (edges_to ws layers ends (e + 1)) ≡ number p (edges_to ws layers ends e) + bit (p (edge_of layers ends (get_or ws e 0)))
unfolding edges_to
edges_more ws layers ends e p h =
    to_sum (take (e + 1) ws) ∙ sum_take (λ w. bit (p (edge_of layers ends w))) ws e 0 h ∙ ap (λ (k : ℕ). k + bit (p (edge_of layers ends (get_or ws e 0)))) (sym (to_sum (take e ws)))
  where
    to_sum : (xs : List ℕ) → number p (map (edge_of layers ends) xs) ≡ sum_of (λ w. bit (p (edge_of layers ends w))) xs
    to_sum xs = number_sum p (map (edge_of layers ends) xs) ∙ sum_map (λ x. bit (p x)) (edge_of layers ends) xs

pub edges_few : (ws layers ends : List ℕ) (e : ℕ) (p : Edge ℕ → Bool) → e ≤ length ws → number p (edges_to ws layers ends e) ≤ e
unfolding edges_to
edges_few ws layers ends e p h =
    let s : number p (map (edge_of layers ends) (take e ws)) ≡ sum_of (λ w. bit (p (edge_of layers ends w))) (take e ws) = number_sum p (map (edge_of layers ends) (take e ws)) ∙ sum_map (λ x. bit (p x)) (edge_of layers ends) (take e ws) in
    omega (arith, s, sum_le (λ w. bit (p (edge_of layers ends w))) (take e ws) (λ w. bit_le (p (edge_of layers ends w))), length-take-le e ws h)
