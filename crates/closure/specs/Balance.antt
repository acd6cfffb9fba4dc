-- Ends and columns: what begins and ends at each x, and what spans each column. Assumes nothing.
--
--   below_even            where as many edges begin as end at each x below i, as many begin as end below i
--   column_even           and so with those at i: as many go west as east over column i
--   column_uneven         but where at i it is not so, as many do not
--   even_closed, closed_even   so a list is closed exactly where as many edges begin as end at each x
--   OpenAt es v           column v is the least at which some layer is not balanced
--   open_not              such a list is not closed
use Rattle.std.specs.Prelude.{◌≡◌, refl, List, [], ◌∷◌, ℕ, zero, suc, ◌<◌, ◌≤◌, eqb}
use Rattle.std.proofs.Common.{sym, ◌∙◌, arith, le-ltb}
use Rattle.meaning.specs.Edges.{Edge, edge, number}
use Rattle.basic_laws.specs.Tests.{and_off}
use Rattle.grid_laws.specs.Plane.{goes_west, goes_east, ClosedN}
use Rattle.marks.specs.Marks.{from_below, to_below}
use Rattle.marks.specs.MarkLaws.{from_more, to_more, ends_span}
use Rattle.closure.specs.Testing.{EvenAt}

from_none : (l : ℕ) (es : List (Edge ℕ)) → number (from_below l 0) es ≡ 0
unfolding number from_below
from_none l [] = refl
from_none l (edge k y f t ∷ es) = rw (le-ltb f 0 (omega arith), and_off (eqb k l)) (omega (arith, from_none l es))

to_none : (l : ℕ) (es : List (Edge ℕ)) → number (to_below l 0) es ≡ 0
unfolding number to_below
to_none l [] = refl
to_none l (edge k y f t ∷ es) = rw (le-ltb t 0 (omega arith), and_off (eqb k l)) (omega (arith, to_none l es))

module _ (es : List (Edge ℕ)) (l : ℕ) where
  pub below_even : (i : ℕ) → ((u : ℕ) → u < i → EvenAt es l u) → number (from_below l i) es ≡ number (to_below l i) es
  below_even zero h = from_none l es ∙ sym (to_none l es)
  below_even (suc i) h = omega (arith, from_more l i es, to_more l i es, below_even i (λ u g. h u (omega arith)), h i (omega arith))

  pub column_even : (i : ℕ) → ((u : ℕ) → u ≤ i → EvenAt es l u) → number (goes_west l i) es ≡ number (goes_east l i) es
  column_even i h = omega (arith, ends_span l i es, below_even (suc i) (λ u g. h u (omega arith)))

  pub column_uneven : (i : ℕ) → ((u : ℕ) → u < i → EvenAt es l u) → (EvenAt es l i → ⊥) → number (goes_west l i) es ≡ number (goes_east l i) es → ⊥
  column_uneven i h n e = n (omega (arith, ends_span l i es, from_more l i es, to_more l i es, below_even i h))

pub even_closed : (es : List (Edge ℕ)) → ((l u : ℕ) → EvenAt es l u) → ClosedN es
unfolding ClosedN
even_closed es h c i = column_even es c i (λ u g. h c u)

pub closed_even : (es : List (Edge ℕ)) → ClosedN es → (l u : ℕ) → EvenAt es l u
unfolding ClosedN
closed_even es h l u = omega (arith, from_more l u es, to_more l u es, up_to u, up_to (suc u))
  where
    up_to : (i : ℕ) → number (from_below l i) es ≡ number (to_below l i) es
    up_to zero = from_none l es ∙ sym (to_none l es)
    up_to (suc i) = omega (arith, ends_span l i es, h l i)

pub record OpenAt (es : List (Edge ℕ)) (v : ℕ) : Type 0 where
  pub layer : ℕ
  pub eight : layer < 8
  pub uneven : number (goes_west layer v) es ≡ number (goes_east layer v) es → ⊥
  pub before : (l i : ℕ) → i < v → number (goes_west l i) es ≡ number (goes_east l i) es

pub open_not : {es : List (Edge ℕ)} {v : ℕ} → OpenAt es v → ClosedN es → ⊥
unfolding ClosedN
open_not {es} {v} O h = O.uneven (h O.layer v)
