-- Words that hold different places are few, since a place is below 8,192. Assumes nothing.
use mathlib.Core.Path.{◌≡◌, sym, ◌∙◌}
use mathlib.Core.List.{List, map}
use Prim.Native.Nat.{ℕ, ◌<◌, ◌≤◌}
use native.Mathlib.Omega.{arith}
use lib.Dec.{eqb}
use lib.ListN.{length, get_or, length-map}
use Rattle.std.proofs.lemmas.Bool.{eqb-true, ne_eqb}
use Rattle.std.proofs.lemmas.List.{get_or-map}
use Rattle.std.proofs.lemmas.List.Folds.{Any-from_list_any}
use Rattle.std.proofs.lemmas.Map.Keys.{IsDistinct-from_apart}
use Rattle.std.proofs.lemmas.Map.Steps.{length-le_from_distinct_below}
use Rattle.words.specs.Words.{place_of}
use Rattle.ranking.specs.Ranked.{Rankable}

place_low : (w : ℕ) → place_of w < 8192
unfolding place_of
place_low w = omega arith

module _ (base : ℕ) (ws : List ℕ) (n : ℕ) (W : Rankable base ws n) where
  abbrev ps : List ℕ
  ps = map place_of ws

  at : (i d : ℕ) → i < length ps → get_or ps i d ≡ place_of (get_or ws i 0)
  at i d h = get_or-map place_of ws i 0 d (omega (arith, length-map ws place_of))

  pub few_words : length ws ≤ 8192
  few_words =
      omega (
        arith,
        length-map ws place_of,
        length-le_from_distinct_below ps 8192
            (IsDistinct-from_apart eqb ps (λ i j d h l. ne_eqb _ _ (λ e. W.apart i j h (omega (arith, length-map ws place_of)) (sym (at i d (omega arith)) ∙ e ∙ at j d l))))
            (λ q h. let A = Any-from_list_any (eqb q) ps h in omega (arith, eqb-true q A.1 A.4, A.3, at A.0 A.1 A.2, place_low (get_or ws A.0 0))),
      )
