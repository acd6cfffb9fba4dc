-- The marks summed up are the edges that span a strip. Assumes nothing.
--
--   from_more, to_more, ends_span   edges by their ends, rank by rank
--   most_all                        no test counts more than all edges
--   run_is                          the sum of the marks up to a rank
--   run_span                        and so the west edges that span the strip there, less the east ones
use Rattle.std.specs.Prelude.{◌≡◌, refl, Bool, true, false, not, List, [], ◌∷◌, eqb, ltb, leb, length}
use Rattle.std.proofs.Common.{sym, ap, ◌∙◌}
use Prim.Native.Nat.{ℕ, zero, suc, ◌+◌, ◌-◌, ◌<◌, ◌≤◌}
use native.Mathlib.Omega.{arith}
use Rattle.meaning.specs.Numbers.{bit}
use Rattle.meaning.specs.Edges.{Edge, edge, number}
use Rattle.basic_laws.specs.Sums.{number_sum}
use Rattle.basic_laws.specs.Tests.{bit_le, spans, ltb_more, one_column, not_leb, and_parts}
use Rattle.sum_laws.specs.Laws.{sum_le}
use Rattle.grid_laws.specs.Plane.{goes_west, goes_east}
use Rattle.marks.specs.Marks.{from_at, to_at, from_below, to_below, Marked, run_to}

-- ---- one edge

from_one : (l r : ℕ) (e : Edge ℕ) → bit (from_below l (suc r) e) ≡ bit (from_below l r e) + bit (from_at l r e)
unfolding from_below from_at
from_one l r (edge k y f t) = sym (and_parts (eqb k l) (ltb f r) (eqb f r) (ltb f (suc r)) (sym (ltb_more f r)))

to_one : (l r : ℕ) (e : Edge ℕ) → bit (to_below l (suc r) e) ≡ bit (to_below l r e) + bit (to_at l r e)
unfolding to_below to_at
to_one l r (edge k y f t) = sym (and_parts (eqb k l) (ltb t r) (eqb t r) (ltb t (suc r)) (sym (ltb_more t r)))

ltb_suc : (f r : ℕ) → ltb f (suc r) ≡ leb f r
ltb_suc f r = not_leb f (suc r) ∙ flip (leb (suc r) f) (leb f r) (sym (not_leb r f) ∙ same)
  where
    flip : (a b : Bool) → not b ≡ a → not a ≡ b
    flip a true e = sym (ap not e)
    flip a false e = sym (ap not e)

    same : ltb r f ≡ leb (suc r) f
    same = refl

span_one : (l r : ℕ) (e : Edge ℕ) → bit (goes_west l r e) + bit (from_below l (suc r) e) ≡ bit (goes_east l r e) + bit (to_below l (suc r) e)
unfolding goes_west goes_east from_below to_below spans
span_one l r (edge k y f t) = rw (ltb_suc f r, ltb_suc t r, not_leb r f, not_leb r t) (one_column (eqb k l) (leb f r) (leb t r))

-- ---- all edges

pub from_more : (l r : ℕ) (es : List (Edge ℕ)) → number (from_below l (suc r)) es ≡ number (from_below l r) es + number (from_at l r) es
unfolding number
from_more l r [] = refl
from_more l r (e ∷ es) = omega (arith, from_one l r e, from_more l r es)

pub to_more : (l r : ℕ) (es : List (Edge ℕ)) → number (to_below l (suc r)) es ≡ number (to_below l r) es + number (to_at l r) es
unfolding number
to_more l r [] = refl
to_more l r (e ∷ es) = omega (arith, to_one l r e, to_more l r es)

pub ends_span : (l r : ℕ) (es : List (Edge ℕ)) → number (goes_west l r) es + number (from_below l (suc r)) es ≡ number (goes_east l r) es + number (to_below l (suc r)) es
unfolding number
ends_span l r [] = refl
ends_span l r (e ∷ es) = omega (arith, span_one l r e, ends_span l r es)

pub most_all : (p : Edge ℕ → Bool) (es : List (Edge ℕ)) → number p es ≤ length es
most_all p es = omega (arith, number_sum p es, sum_le (λ e. bit (p e)) es (λ e. bit_le (p e)))

-- ---- the sums; no edge has an end below a

module _ {n : ℕ} {es : List (Edge ℕ)} {d : List ℕ} (M : Marked n es d) (few : length es ≤ 4096) (l a : ℕ) (hl : l < 8) (froms : number (from_below l a) es ≡ 0) (tos : number (to_below l a) es ≡ 0) where
  pub run_is : (k : ℕ) → a + k ≤ n → run_to n d l a k + number (from_below l (a + k)) es ≡ 8192 + number (to_below l (a + k)) es
  unfolding run_to
  run_is zero h = let z : a + 0 ≡ a = omega arith in rw z (omega (arith, froms, tos))
  run_is (suc k) h =
      let z : a + suc k ≡ suc (a + k) = omega arith in
      rw z (omega (
        arith,
        run_is k (omega arith),
        M.marks l (a + k) hl (omega arith),
        from_more l (a + k) es,
        to_more l (a + k) es,
        most_all (from_below l (suc (a + k))) es,
      ))

  pub run_span : (r : ℕ) → a ≤ r → r < n → run_to n d l a (suc (r - a)) + number (goes_east l r) es ≡ 8192 + number (goes_west l r) es
  run_span r g h =
      let z : a + suc (r - a) ≡ suc r = omega arith in
      omega (arith, rw z at (run_is (suc (r - a)) (omega arith)), ends_span l r es)
