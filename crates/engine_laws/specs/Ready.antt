-- Ordered edges are ready for the sweep. Assumes nothing.
--
--   Ready n base ws layers ends values r   what the sweep over n strips is asked of its words, layers, ranks and values
--   ready           edges fit for the sweep, once ordered, are ready
use Rattle.std.specs.Prelude.{◌≡◌, List, map, ℕ, zero, ◌<◌, ◌≤◌, length, get_or, take}
use Rattle.std.proofs.Common.{ap, ◌∙◌, arith}
use Rattle.std.proofs.lemmas.List.{length-map}
use Rattle.meaning.specs.Edges.{Edge}
use Rattle.basic_laws.specs.Fours.{layer_of}
use Rattle.basic_laws.specs.Lists.{all_at}
use Rattle.sum_laws.specs.Sums.{Ascending}
use Rattle.words.specs.Words.{value_of}
use Rattle.grid_laws.specs.Places.{Rising}
use Rattle.crossings.specs.Swept.{Words}
use Rattle.strip_laws.specs.Ordered.{no_edge, EdgesOk, Ordered}
use Rattle.strip_laws.proofs.Found.{values_long, values_rise}
use Rattle.strip_laws.proofs.Ready.{ordered_words, heights_low, values_low}

pub record Ready (n base : ℕ) (ws layers ends values : List ℕ) (r : ℕ) : Type 0 where
  pub words : Words n ws layers ends
  pub ascending : Ascending ws
  pub heights : (i : ℕ) → i < length ws → value_of base (get_or ws i 0) ≤ 2147483648
  -- the values are those of the ranks below r
  pub long : length (take r values) ≡ r
  pub rising : Rising zero (take r values)
  pub low : (k : ℕ) → get_or (take r values) k 0 ≤ 2147483648
  pub ranks : (p : ℕ) → p < length ends → get_or ends p 0 < r

pub ready : {base : ℕ} {es : List (Edge ℕ)} {ws layers xs ends values : List ℕ} {r : ℕ} → Ordered base es ws layers xs ends values r → EdgesOk es → layers ≡ map layer_of es → length ends ≡ length xs
    → (n : ℕ) → n ≤ 8192 → r ≤ n → Ready n base ws layers ends values r
ready {base} {es} {ws} {layers} {xs} {ends} {values} {r} O E el le n few fits = record {
  words = ordered_words O n E.few few fits (ap length el ∙ length-map es layer_of) le (λ k h. all_at (λ e. layer_of e < 8) es k no_edge E.layers h);
  ascending = O.order.ascending;
  heights = heights_low O E;
  long = values_long O;
  rising = values_rise O;
  low = values_low O E;
  ranks = λ p h. O.ranked.low p (omega arith);
}
