-- Cells of an edge list, over whole numbers and in steps. Assumes nothing.
--
--   low, high           a coordinate lies above every number below the range, and below every one above it
--   wests_view, easts_view   counts agree
--   inside_view         THE CELLS: those of the list are those of its edges in steps
--   closed_view, view_closed   a list is closed exactly when it is in steps
--   outside_even        outside the range a closed list has as many west as east edges
--   inside_within       NOTHING OUTSIDE: a sound, closed list has no inside cell outside the range, where the expression does not hold of nothing
--   same_columns, same_rows    WHERE TO LOOK: counts change only at the ends of edges, and at their y
use Rattle.std.specs.Prelude.{◌≡◌, Bool, ◌⊎◌, List, map, ℕ, ◌*◌, ℤ, neg_ℤ, ◌-ℤ◌}
use Rattle.std.proofs.Math.Path.{refl, sym, ap, ap₂, fun_ext}
use Rattle.std.proofs.Common.{◌∙◌, inl, inr, arith, le-leb}
use Rattle.std.proofs.Math.Bool.{true, false, ◌&&◌}
use Rattle.std.proofs.Math.IntN.{pos}
use Rattle.std.specs.Int.Signed.{le_z, lt_z}
use Rattle.meaning.specs.Numbers.{in_range, step}
use Rattle.meaning.specs.Edges.{Edge, edge, west, east, on, up_to, number, wests, easts, count, covers, Closed, sound_edge}
use Rattle.meaning.specs.Cells.{inside, Within}
use Rattle.basic_laws.specs.Tests.{and_off, and_on, spans}
use Rattle.basic_laws.specs.Lists.{All, all_map, number_same, number_none, number_to_map}
use Rattle.basic_laws.specs.Signed.{eq_z_natural, not_le_z, lt_le_trans, le_trans_le_z, lt_not_le, le_not_lt, lt_le}
use Rattle.basic_laws.specs.Steps.{lift, step_le, step_lift, lift_le, le_lift, lt_lift, beyond}
use Rattle.basic_laws.specs.Sound.{Sound, sound_parts, lifted}
use Rattle.grid_laws.specs.Plane.{goes_west, goes_east, up_to_n, wests_n, easts_n, covers_n, inside_n, ClosedN}
use Rattle.grid_laws.specs.Covering.{covers_none}
use Rattle.laws.specs.View.{view, first_step, last_is}

-- ---- coordinates beside numbers outside the range

pub low : (L : ℕ) (z k : ℤ) → in_range L z ≡ true → lt_z k (neg_ℤ (pos L)) ≡ true → le_z z k ≡ false
low L z k h u =
    lt_not_le k z (lt_le_trans k (step L 0) z (ap (lt_z k) (first_step L) ∙ u)
    (ap (le_z (step L 0)) (sym (step_lift L z h)) ∙ step_le L 0 (lift L z) ∙ le-leb 0 (lift L z) (omega arith)))

pub high : (L : ℕ) (z k : ℤ) → in_range L z ≡ true → le_z (pos L) k ≡ true → le_z z k ≡ true
high L z k h u =
    le_trans_le_z z (pos L) k
    (ap₂ le_z (sym (step_lift L z h)) (sym (last_is L)) ∙ step_le L (lift L z) (2 * L) ∙ le-leb (lift L z) (2 * L) (lift_le L z h)) u

module _ (top L : ℕ) where
  west_view : (c i : ℕ) (e : Edge ℤ) → sound_edge top L e ≡ true → (on c e && west (step L i) e) ≡ goes_west c i (lifted L e)
  unfolding on west goes_west spans lifted
  west_view c i (edge l y f t) h =
      let p = sound_parts top L l y f t h in
      ap₂ ◌&&◌ (eq_z_natural l c p.natural) (ap₂ ◌&&◌ (le_lift L t i p.to_in) (lt_lift L i f p.from_in))

  east_view : (c i : ℕ) (e : Edge ℤ) → sound_edge top L e ≡ true → (on c e && east (step L i) e) ≡ goes_east c i (lifted L e)
  unfolding on east goes_east spans lifted
  east_view c i (edge l y f t) h =
      let p = sound_parts top L l y f t h in
      ap₂ ◌&&◌ (eq_z_natural l c p.natural) (ap₂ ◌&&◌ (le_lift L f i p.from_in) (lt_lift L i t p.to_in))

  up_view : (j : ℕ) (e : Edge ℤ) → sound_edge top L e ≡ true → up_to (step L j) e ≡ up_to_n j (lifted L e)
  unfolding up_to up_to_n lifted
  up_view j (edge l y f t) h = le_lift L y j (sound_parts top L l y f t h).y_in

  -- ---- lists

  pub wests_view : (es : List (Edge ℤ)) → Sound top L es → (c i j : ℕ) → wests es c (step L i) (step L j) ≡ wests_n (map (lifted L) es) c i j
  unfolding wests wests_n
  wests_view es s c i j =
      number_same _ _ es (all_map _ _ es (λ e h. ap₂ ◌&&◌ (west_view c i e h) (up_view j e h)) s)
      ∙ sym (number_to_map (λ e. goes_west c i e && up_to_n j e) (lifted L) es)

  pub easts_view : (es : List (Edge ℤ)) → Sound top L es → (c i j : ℕ) → easts es c (step L i) (step L j) ≡ easts_n (map (lifted L) es) c i j
  unfolding easts easts_n
  easts_view es s c i j =
      number_same _ _ es (all_map _ _ es (λ e h. ap₂ ◌&&◌ (east_view c i e h) (up_view j e h)) s)
      ∙ sym (number_to_map (λ e. goes_east c i e && up_to_n j e) (lifted L) es)

  pub inside_view : (holds : (ℕ → Bool) → Bool) (es : List (Edge ℤ)) → Sound top L es → view L (inside holds es) ≡ inside_n holds (map (lifted L) es)
  unfolding inside inside_n count covers_n
  inside_view holds es s = fun_ext (λ i. fun_ext (λ j. ap holds (fun_ext (λ c. ap₂ (λ (m n : ℕ). covers (pos m -ℤ pos n)) (wests_view es s c i j) (easts_view es s c i j)))))

  pub wests_column : (es : List (Edge ℤ)) → Sound top L es → (c i : ℕ) → number (λ e. on c e && west (step L i) e) es ≡ number (goes_west c i) (map (lifted L) es)
  wests_column es s c i = number_same _ _ es (all_map _ _ es (λ e h. west_view c i e h) s) ∙ sym (number_to_map (goes_west c i) (lifted L) es)

  pub easts_column : (es : List (Edge ℤ)) → Sound top L es → (c i : ℕ) → number (λ e. on c e && east (step L i) e) es ≡ number (goes_east c i) (map (lifted L) es)
  easts_column es s c i = number_same _ _ es (all_map _ _ es (λ e h. east_view c i e h) s) ∙ sym (number_to_map (goes_east c i) (lifted L) es)

  pub closed_view : (es : List (Edge ℤ)) → Sound top L es → Closed es → ClosedN (map (lifted L) es)
  unfolding Closed ClosedN
  closed_view es s h c i = sym (wests_column es s c i) ∙ h c (step L i) ∙ easts_column es s c i

  -- ---- outside the range

  -- no edge spans a column outside
  spans_none : (c : ℕ) (i : ℤ) → (lt_z i (neg_ℤ (pos L)) ≡ true) ⊎ (le_z (pos L) i ≡ true) → (e : Edge ℤ) → sound_edge top L e ≡ true → (west i e ≡ false) × (east i e ≡ false)
  unfolding west east
  spans_none c i (inl u) (edge l y f t) h = let p = sound_parts top L l y f t h in (rw (low L t i p.to_in u), rw (low L f i p.from_in u))
  spans_none c i (inr u) (edge l y f t) h =
      let p = sound_parts top L l y f t h in
      (rw (le_not_lt f i (high L f i p.from_in u)) (and_off (le_z t i)), rw (le_not_lt t i (high L t i p.to_in u)) (and_off (le_z f i)))

  none_side : (p a b : Bool) → a ≡ false → ((p && a) && b) ≡ false
  none_side true a b e = rw e
  none_side false a b e = refl

  none_low : (a b : Bool) → b ≡ false → (a && b) ≡ false
  none_low a b e = rw e (and_off a)

  all_low : (a b : Bool) → b ≡ true → (a && b) ≡ a
  all_low a b e = rw e (and_on a)

  pub outside_even : (es : List (Edge ℤ)) → Sound top L es → Closed es → (c : ℕ) (i j : ℤ)
      → ((lt_z i (neg_ℤ (pos L)) ≡ true) ⊎ (le_z (pos L) i ≡ true)) ⊎ ((lt_z j (neg_ℤ (pos L)) ≡ true) ⊎ (le_z (pos L) j ≡ true)) → wests es c i j ≡ easts es c i j
  unfolding wests easts Closed up_to
  outside_even es s h c i j (inl u) =
      number_none _ es (all_map _ _ es (λ e q. none_side (on c e) (west i e) (up_to j e) (spans_none c i u e q).0) s)
      ∙ sym (number_none _ es (all_map _ _ es (λ e q. none_side (on c e) (east i e) (up_to j e) (spans_none c i u e q).1) s))
  outside_even es s h c i j (inr (inl u)) =
      number_none _ es (all_map _ _ es (λ e q. none_low (on c e && west i e) (up_to j e) (under e q)) s)
      ∙ sym (number_none _ es (all_map _ _ es (λ e q. none_low (on c e && east i e) (up_to j e) (under e q)) s))
    where
      under : (e : Edge ℤ) → sound_edge top L e ≡ true → up_to j e ≡ false
      under (edge l y f t) q = low L y j (sound_parts top L l y f t q).y_in u
  outside_even es s h c i j (inr (inr u)) =
      number_same _ _ es (all_map _ _ es (λ e q. all_low (on c e && west i e) (up_to j e) (over e q)) s)
      ∙ h c i
      ∙ sym (number_same _ _ es (all_map _ _ es (λ e q. all_low (on c e && east i e) (up_to j e) (over e q)) s))
    where
      over : (e : Edge ℤ) → sound_edge top L e ≡ true → up_to j e ≡ true
      over (edge l y f t) q = high L y j (sound_parts top L l y f t q).y_in u

  pub view_closed : (es : List (Edge ℤ)) → Sound top L es → ClosedN (map (lifted L) es) → Closed es
  unfolding Closed ClosedN
  view_closed es s h c i = go (in_range L i) refl
    where
      none : (lt_z i (neg_ℤ (pos L)) ≡ true) ⊎ (le_z (pos L) i ≡ true) → number (λ e. on c e && west i e) es ≡ number (λ e. on c e && east i e) es
      none u =
          number_none _ es (all_map _ _ es (λ e q. none_low (on c e) (west i e) (spans_none c i u e q).0) s)
          ∙ sym (number_none _ es (all_map _ _ es (λ e q. none_low (on c e) (east i e) (spans_none c i u e q).1) s))

      far : (lt_z i (neg_ℤ (pos L)) ≡ true) ⊎ (lt_z (pos L) i ≡ true) → number (λ e. on c e && west i e) es ≡ number (λ e. on c e && east i e) es
      far (inl u) = none (inl u)
      far (inr u) = none (inr (lt_le (pos L) i u))

      go : (b : Bool) → in_range L i ≡ b → number (λ e. on c e && west i e) es ≡ number (λ e. on c e && east i e) es
      go true e = rw (← (step_lift L i e)) (wests_column es s c (lift L i) ∙ h c (lift L i) ∙ sym (easts_column es s c (lift L i)))
      go false e = far (beyond L i e)

  pub inside_within : (holds : (ℕ → Bool) → Bool) → holds (λ c. false) ≡ false → (es : List (Edge ℤ)) → Sound top L es → Closed es → Within L (inside holds es)
  unfolding inside count
  inside_within holds empty es s h = record {
    left = λ i j u. out i j (inl (inl u));
    right = λ i j u. out i j (inl (inr u));
    below = λ i j u. out i j (inr (inl u));
    above = λ i j u. out i j (inr (inr u));
  }
    where
      out : (i j : ℤ) → ((lt_z i (neg_ℤ (pos L)) ≡ true) ⊎ (le_z (pos L) i ≡ true)) ⊎ ((lt_z j (neg_ℤ (pos L)) ≡ true) ⊎ (le_z (pos L) j ≡ true)) → inside holds es i j ≡ false
      out i j u = ap holds (fun_ext (λ c. covers_none (wests es c i j) (easts es c i j) (outside_even es s h c i j u))) ∙ empty

-- ---- where to look

-- no end of the edge lies between columns i and i'; its y does not lie between rows j and j'
abbrev pub NoEnd : ℤ → ℤ → Edge ℤ → Type 0
NoEnd i i' (edge l y f t) = (le_z f i ≡ le_z f i') × (le_z t i ≡ le_z t i')

abbrev pub NoEdge : ℤ → ℤ → Edge ℤ → Type 0
NoEdge j j' (edge l y f t) = le_z y j ≡ le_z y j'

pub same_columns : (es : List (Edge ℤ)) (c : ℕ) (i i' j : ℤ) → All (NoEnd i i') es → count es c i j ≡ count es c i' j
unfolding count wests easts west east
same_columns es c i i' j s =
    ap₂ (λ (m n : ℕ). pos m -ℤ pos n)
    (number_same _ _ es (all_map _ _ es (λ e h. ap (λ (b : Bool). (on c e && b) && up_to j e) (one e h).0) s))
    (number_same _ _ es (all_map _ _ es (λ e h. ap (λ (b : Bool). (on c e && b) && up_to j e) (one e h).1) s))
  where
    one : (e : Edge ℤ) → NoEnd i i' e → (west i e ≡ west i' e) × (east i e ≡ east i' e)
    one (edge l y f t) h = (
      rw (not_le_z i f, not_le_z i' f, h.0, h.1),
      rw (not_le_z i t, not_le_z i' t, h.0, h.1),
    )

pub same_rows : (es : List (Edge ℤ)) (c : ℕ) (i j j' : ℤ) → All (NoEdge j j') es → count es c i j ≡ count es c i j'
unfolding count wests easts up_to
same_rows es c i j j' s =
    ap₂ (λ (m n : ℕ). pos m -ℤ pos n)
    (number_same _ _ es (all_map _ _ es (λ e h. ap (◌&&◌ (on c e && west i e)) (one e h)) s))
    (number_same _ _ es (all_map _ _ es (λ e h. ap (◌&&◌ (on c e && east i e)) (one e h)) s))
  where
    one : (e : Edge ℤ) → NoEdge j j' e → up_to j e ≡ up_to j' e
    one (edge l y f t) h = h
