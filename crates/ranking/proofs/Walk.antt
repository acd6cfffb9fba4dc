-- The loop of `ranks_of`: after i words, values has the keys of these, rising, up to place k, where the last key stands. Assumes nothing.
use mathlib.Core.Path.{◌≡◌, refl, sym, ap, ◌∙◌}
use mathlib.Core.Logic.{⊎_elim, ◌⊎◌, inl, inr}
use mathlib.Core.List.{List}
use Prim.Native.Nat.{ℕ, ◌+◌, ◌<◌, ◌≤◌}
use native.Mathlib.Omega.{arith}
use native.Mathlib.Decide.{dec_lt}
use borrow.Author.Tests.{lt-ltb, le-ltb}
use lib.Dec.{ltb}
use mir.Val.{bool_byte}
use lib.ListN.{length, get_or, set, length-set}
use lib.Seq.{get_or-set_same, get_or-set_other}
use Rattle.sum_laws.specs.Laws.{after_set, below_or}
use native.Mathlib.Nat.{eq-or-lt_of_le}
use Rattle.words.specs.Words.{place_of, value_of, value_up}
use Rattle.ranking.specs.Ranked.{Rankable, Has, Ranked}

-- one more where v is above the last, as the code counts it
pub is_new : (last v d : ℕ) → d ≡ bool_byte (ltb last v) → ((last < v) × (d ≡ 1)) ⊎ ((v ≤ last) × (d ≡ 0))
is_new last v d e = by_dec (dec_lt last v)
  where
    by_dec : Dec (last < v) → ((last < v) × (d ≡ 1)) ⊎ ((v ≤ last) × (d ≡ 0))
    by_dec (yes l) = inl (l, e ∙ ap bool_byte (lt-ltb last v l))
    by_dec (no n) = inr (omega arith, e ∙ ap bool_byte (le-ltb last v (omega arith)))

pub wide_set : (ws values : List ℕ) (v : ℕ) → length ws ≤ length values → length ws ≤ length (set values 0 v)
wide_set ws values v h = rw length-set h

pub record Ranking (base : ℕ) (ws values₀ ranks₀ values ranks : List ℕ) (last k i : ℕ) : Type 0 where
  pub within : i ≤ length ws
  pub wide : length values ≡ length values₀
  pub long : length ranks ≡ length ranks₀
  pub less : 0 < i → k < i
  pub first_k : i ≡ 0 → k ≡ 0
  pub first : i ≡ 0 → last ≡ value_of base (get_or ws 0 0)
  pub top : get_or values k 0 ≡ last
  pub ahead : (q : ℕ) → i ≤ q → q < length ws → last ≤ value_of base (get_or ws q 0)
  pub rising : (p q : ℕ) → p < q → q ≤ k → get_or values p 0 < get_or values q 0
  pub low : (p : ℕ) → p < i → get_or ranks (place_of (get_or ws p 0)) 0 ≤ k
  pub is : (p : ℕ) → p < i → get_or values (get_or ranks (place_of (get_or ws p 0)) 0) 0 ≡ value_of base (get_or ws p 0)
  pub every : (r : ℕ) → r ≤ k → Has base ws (length ws) (get_or values r 0)

module _ (base : ℕ) (ws values₀ ranks₀ : List ℕ) (fits : length ws ≤ length values₀) (W : Rankable base ws (length ranks₀)) where
  pub start : (last : ℕ) → 0 < length ws → last ≡ value_of base (get_or ws 0 0) → get_or values₀ 0 0 ≡ last → Ranking base ws values₀ ranks₀ values₀ ranks₀ last 0 0
  start last some e here =
      record {
        within = omega arith;
        wide = refl;
        long = refl;
        less = λ h. let z : ⊥ = omega arith in absurd z;
        first_k = λ h. refl;
        first = λ h. e;
        top = here;
        ahead = λ q h l. ⊎_elim (λ z. omega (arith, e, ap (λ n. value_of base (get_or ws n 0)) z)) (λ g. omega (arith, e, value_up base (get_or ws 0 0) (get_or ws q 0) (W.ascending 0 q g l))) (eq-or-lt_of_le h);
        rising = λ p q h l. let z : ⊥ = omega arith in absurd z;
        low = λ p h. let z : ⊥ = omega arith in absurd z;
        is = λ p h. let z : ⊥ = omega arith in absurd z;
        every = λ r h. record { at = 0; within = some; is = sym e ∙ sym here ∙ ap (λ n. get_or values₀ n 0) (zero_of r h) };
      }
    where
      zero_of : (r : ℕ) → r ≤ 0 → 0 ≡ r
      zero_of r h = omega arith

  module _ (values ranks : List ℕ) (last k i : ℕ) (S : Ranking base ws values₀ ranks₀ values ranks last k i) (more : i < length ws)
      (v d : ℕ) (v-is : v ≡ value_of base (get_or ws i 0)) (d-is : ((last < v) × (d ≡ 1)) ⊎ ((v ≤ last) × (d ≡ 0))) where
    pub rank_low : k + d ≤ i
    rank_low =
        ⊎_elim (λ z. ⊎_elim (λ Q. let w : ⊥ = omega (arith, Q.0, S.first (sym z), v-is, ap (λ n. value_of base (get_or ws n 0)) z) in absurd w) (λ Q. omega (arith, Q.1, S.first_k (sym z))) d-is)
        (λ g. ⊎_elim (λ Q. omega (arith, Q.1, S.less g)) (λ Q. omega (arith, Q.1, S.less g)) d-is)
        (eq-or-lt_of_le {n = 0} {m = i} (omega arith))

    pub value_in : k + d < length values
    value_in = omega (arith, rank_low, S.wide)

    abbrev m : ℕ
    m = k + d

    abbrev vs : List ℕ
    vs = set values m v

    here : get_or vs m 0 ≡ v
    here = get_or-set_same values m v 0 value_in

    -- no value changes
    kept : (p : ℕ) → p ≤ k → get_or vs p 0 ≡ get_or values p 0
    kept p h =
        ⊎_elim
        (λ Q. ⊎_elim (λ D. let z : ⊥ = omega (arith, D.1, Q.0) in absurd z)
        (λ D. let e : k ≡ p = omega (arith, D.1, Q.0) in omega (arith, Q.1, D.0, S.top, S.ahead i (omega arith) more, v-is, ap (λ n. get_or values n 0) e)) d-is)
        (λ Q. Q.1) (after_set values m v p value_in)

    up : (p q : ℕ) → p < q → q ≤ m → get_or vs p 0 < get_or vs q 0
    up p q h l =
        ⊎_elim (λ b. omega (arith, kept p (omega arith), kept q (omega arith), S.rising p q h (omega arith)))
        (λ b. ⊎_elim
        (λ D. let e : m ≡ q = omega (arith, D.1) in
        ⊎_elim (λ z. omega (arith, kept p (omega (arith, D.1)), ap (λ n. get_or values n 0) z, S.top, D.0, here, ap (λ n. get_or vs n 0) e))
        (λ g. omega (arith, kept p (omega (arith, D.1)), S.rising p k g (omega arith), S.top, D.0, here, ap (λ n. get_or vs n 0) e))
        (eq-or-lt_of_le {n = p} {m = k} (omega (arith, D.1))))
        (λ D. let z : ⊥ = omega (arith, D.1) in absurd z) d-is)
        (below_or q (k + 1))

    pub step : (c : ℕ) → c ≡ place_of (get_or ws i 0) → (u : ℕ) → u ≡ m → Ranking base ws values₀ ranks₀ vs (set ranks c u) v m (i + 1)
    step c c-is u u-is =
        let c_in : c < length ranks = omega (arith, c-is, W.inside i more, S.long) in
        let other : (p : ℕ) → p < i → get_or (set ranks c u) (place_of (get_or ws p 0)) 0 ≡ get_or ranks (place_of (get_or ws p 0)) 0 =
        λ p h. get_or-set_other ranks c (place_of (get_or ws p 0)) u 0 (λ e. W.apart p i h more (e ∙ c-is)) in
        let own : get_or (set ranks c u) (place_of (get_or ws i 0)) 0 ≡ m = ap (λ n. get_or (set ranks c u) n 0) (sym c-is) ∙ get_or-set_same ranks c u 0 c_in ∙ u-is in
        record {
          within = omega arith;
          wide = length-set values m v ∙ S.wide;
          long = length-set ranks c u ∙ S.long;
          less = λ h. omega (arith, rank_low);
          first_k = λ h. let z : ⊥ = omega arith in absurd z;
          first = λ h. let z : ⊥ = omega arith in absurd z;
          top = here;
          ahead = λ q h l. omega (arith, v-is, value_up base (get_or ws i 0) (get_or ws q 0) (W.ascending i q (omega arith) l));
          rising = up;
          low = λ p h. ⊎_elim (λ e. omega (arith, own, ap (λ n. get_or (set ranks c u) (place_of (get_or ws n 0)) 0) e)) (λ g. omega (arith, other p g, S.low p g)) (eq-or-lt_of_le {n = p} {m = i} (omega arith));
          is = λ p h. ⊎_elim
              (λ e. ap (λ n. get_or vs (get_or (set ranks c u) (place_of (get_or ws n 0)) 0) 0) e ∙ ap (λ n. get_or vs n 0) own ∙ here ∙ v-is ∙ ap (λ n. value_of base (get_or ws n 0)) (sym e))
              (λ g. ap (λ n. get_or vs n 0) (other p g) ∙ kept (get_or ranks (place_of (get_or ws p 0)) 0) (S.low p g) ∙ S.is p g)
              (eq-or-lt_of_le {n = p} {m = i} (omega arith));
          every = λ r h. ⊎_elim
              (λ e. record { at = i; within = more; is = sym v-is ∙ sym here ∙ ap (λ n. get_or vs n 0) (sym e) })
              (λ g. let l : r ≤ k = one_less r g in let H = S.every r l in record { at = H.at; within = H.within; is = H.is ∙ sym (kept r l) })
              (eq-or-lt_of_le h);
        }
      where
        one_less : (r : ℕ) → r < m → r ≤ k
        one_less r g = ⊎_elim (λ D. omega (arith, D.1)) (λ D. omega (arith, D.1)) d-is

  pub done : (values ranks : List ℕ) (last k i : ℕ) → Ranking base ws values₀ ranks₀ values ranks last k i → 0 < length ws → length ws ≤ i → Ranked base ws values ranks (k + 1)
  done values ranks last k i S some all =
      let l : k < i = S.less (omega arith) in
      record {
        within = omega (arith, S.within, S.wide);
        rising = λ p q h g. S.rising p q h (omega arith);
        low = λ p h. omega (arith, S.low p (omega arith));
        is = λ p h. S.is p (omega arith);
        every = λ r h. S.every r (omega arith);
      }

  pub none : (values ranks : List ℕ) → length ws ≡ 0 → Ranked base ws values ranks 0
  none values ranks e = record {
    within = omega arith;
    rising = λ p q h l. let z : ⊥ = omega arith in absurd z;
    low = λ p h. let z : ⊥ = omega arith in absurd z;
    is = λ p h. let z : ⊥ = omega arith in absurd z;
    every = λ r h. let z : ⊥ = omega arith in absurd z;
  }
