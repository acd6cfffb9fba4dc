-- The edges of one place, marked and summed up in all layers. Assumes nothing.
--
--   all_ready   marked edges can be summed up
--   all_count   each strip then has the west edges that span it more, and the east ones less
--   all_fresh   and the marks are fresh
use Rattle.std.specs.Prelude.{◌≡◌, List, ℕ, ◌+◌, ◌*◌, ◌<◌, ◌≤◌, eqb, length}
use Rattle.std.proofs.Common.{◌∙◌, arith, le-ltb, ne_eqb}
use Rattle.std.proofs.Math.Decide.{dec_lt}
use Rattle.meaning.specs.Edges.{Edge, number}
use Rattle.basic_laws.specs.Tests.{and_off, spans_below, spans_above}
use Rattle.grid_laws.specs.Plane.{goes_west, goes_east}
use Rattle.strips.specs.Rows.{row_at}
use Rattle.marks.specs.Marks.{from_at, to_at, from_below, to_below, Marked, FreshMarks, Between, Covered, AllOk, SummedAll}
use Rattle.marks.specs.MarkLaws.{run_span, most_all}
use Rattle.marks.specs.SumReady.{sum_ready}
use Rattle.marks.specs.Fresh.{fresh_by}

module _ {a b : ℕ} {es : List (Edge ℕ)} (B : Between a b es) where
  froms : (l : ℕ) → number (from_below l a) es ≡ 0
  unfolding from_below
  froms l = B.none (from_below l a) (λ k y f t u _ _ _. rw (le-ltb f a u) (and_off (eqb k l)))

  tos : (l : ℕ) → number (to_below l a) es ≡ 0
  unfolding to_below
  tos l = B.none (to_below l a) (λ k y f t _ u _ _. rw (le-ltb t a u) (and_off (eqb k l)))

  module _ (l r : ℕ) (out : a ≤ r → r ≤ b → ⊥) where
    from_none : number (from_at l r) es ≡ 0
    unfolding from_at
    from_none = B.none (from_at l r) (λ k y f t u _ v _. rw (ne_eqb f r (λ e. out (omega arith) (omega arith))) (and_off (eqb k l)))

    to_none : number (to_at l r) es ≡ 0
    unfolding to_at
    to_none = B.none (to_at l r) (λ k y f t _ u _ v. rw (ne_eqb t r (λ e. out (omega arith) (omega arith))) (and_off (eqb k l)))

  module _ (l r : ℕ) where
    below_none : r < a → (number (goes_west l r) es ≡ 0) × (number (goes_east l r) es ≡ 0)
    unfolding goes_west goes_east
    below_none h = (
      B.none (goes_west l r) (λ k y f t _ u _ _. rw (spans_below t f r (omega arith)) (and_off (eqb k l))),
      B.none (goes_east l r) (λ k y f t u _ _ _. rw (spans_below f t r (omega arith)) (and_off (eqb k l))),
    )

    above_none : b ≤ r → (number (goes_west l r) es ≡ 0) × (number (goes_east l r) es ≡ 0)
    unfolding goes_west goes_east
    above_none h = (
      B.none (goes_west l r) (λ k y f t _ _ u _. rw (spans_above t f r (omega arith)) (and_off (eqb k l))),
      B.none (goes_east l r) (λ k y f t _ _ _ u. rw (spans_above f t r (omega arith)) (and_off (eqb k l))),
    )

module _ {n a b : ℕ} {es : List (Edge ℕ)} {d₀ : List ℕ} (M : Marked n es d₀) (few : length es ≤ 4096) (B : Between a b es) where
  pub all_ready : {c m : List ℕ} → a ≤ b → b < n → n ≤ 8192 → length c ≡ 8 * n → length m ≡ n → ((l r : ℕ) → l < 8 → r < n → (4096 ≤ row_at n c l r) × (row_at n c l r ≤ 12288)) → Covered n c m → AllOk n a b c m d₀
  all_ready order top small long long_m near covered = record {
    sums = λ l h. sum_ready M few l a b h (froms B l) (tos B l) order top long long_m small (λ r u. near l r h u);
    covered = covered;
  }

  module _ {c₀ c m₀ m d : List ℕ} (S : SummedAll n a b c₀ c m₀ m d₀ d) where
    pub all_count : (l r : ℕ) → l < 8 → r < n → 4096 ≤ row_at n c₀ l r → row_at n c l r + number (goes_east l r) es ≡ row_at n c₀ l r + number (goes_west l r) es
    all_count l r hl hr low = go (dec_lt r a) (dec_lt r b)
      where
        go : Dec (r < a) → Dec (r < b) → row_at n c l r + number (goes_east l r) es ≡ row_at n c₀ l r + number (goes_west l r) es
        go (yes u) _ =
            let e = below_none B l r u in
            omega (arith, S.still l r hl hr (λ _ w _. let z : ⊥ = omega arith in absurd z), e.0, e.1)
        go (no u) (no v) =
            let e = above_none B l r (omega arith) in
            omega (arith, S.still l r hl hr (λ _ _ w. v w), e.0, e.1)
        go (no u) (yes v) =
            omega (arith, S.counts l r hl (omega arith) v, run_span M few l a hl (froms B l) (tos B l) r (omega arith) hr, most_all (goes_east l r) es)

    pub all_fresh : FreshMarks n d
    all_fresh = fresh_by (S.long_marks ∙ M.long) (λ l r hl hr. go l r hl hr (dec_lt r a) (dec_lt b r))
      where
        out : (l r : ℕ) → l < 8 → r < n → (a ≤ r → r ≤ b → ⊥) → row_at n d l r ≡ 8192
        out l r hl hr w = omega (arith, S.still_marks l r hl hr (λ _ u v. w u v), M.marks l r hl hr, from_none B l r w, to_none B l r w)

        go : (l r : ℕ) → l < 8 → r < n → Dec (r < a) → Dec (b < r) → row_at n d l r ≡ 8192
        go l r hl hr (yes u) _ = out l r hl hr (λ w _. let z : ⊥ = omega arith in absurd z)
        go l r hl hr (no u) (yes v) = out l r hl hr (λ _ w. let z : ⊥ = omega arith in absurd z)
        go l r hl hr (no u) (no v) = S.marks l r hl (omega arith) (omega arith)
