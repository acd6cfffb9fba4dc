-- The words of edges in steps are what the sweep is asked. Assumes nothing.
--
--   ordered_words   the words, layers and ranks are sound
--   heights_low     the words' y are in range
--   values_low      and so are the distinct x
use Rattle.std.specs.Prelude.{◌≡◌, refl, List, map, ℕ, ◌%◌, ◌<◌, ◌≤◌, length, get_or, take}
use Rattle.std.proofs.Common.{sym, ap, ◌∙◌, arith}
use Rattle.std.proofs.Math.Decide.{dec_lt}
use Rattle.std.proofs.lemmas.List.{length-map}
use Rattle.std.proofs.Math.ListN.{get_or-eq_default}
use Rattle.meaning.specs.Edges.{Edge}
use Rattle.basic_laws.specs.Fours.{layer_of, y_of}
use Rattle.basic_laws.specs.Lists.{map_at}
use Rattle.words.specs.Words.{value_of}
use Rattle.grid_laws.specs.Places.{has}
use Rattle.rank_laws.specs.Ranks.{at_has}
use Rattle.crossings.specs.Swept.{Words}
use Rattle.strip_laws.specs.Ordered.{no_edge, EdgesOk, Ordered}
use Rattle.strip_laws.proofs.Ranked.{long_words, known, height}
use Rattle.strip_laws.specs.Found.{edges_ys}
use Rattle.strip_laws.proofs.Found.{values_are}

pub ordered_words : {base : ℕ} {es : List (Edge ℕ)} {ws layers xs ends values : List ℕ} {r : ℕ} → Ordered base es ws layers xs ends values r → (n : ℕ) → length es ≤ 4096 → n ≤ 8192 → r ≤ n
    → length layers ≡ length es → length ends ≡ length xs → ((k : ℕ) → k < length es → layer_of (get_or es k no_edge) < 8) → Words n ws layers ends
ordered_words {base} {es} {ws} {layers} {xs} {ends} {values} {r} O n few rows_few fits ll le eight = record {
  few = omega (arith, long_words O);
  rows_few = rows_few;
  known = λ i h. omega (arith, known O i h);
  two = omega (arith, O.long);
  eight = λ k h. let u : k < length es = omega arith in omega (arith, O.layer k u, eight k u);
  ranks = λ p h. omega (arith, O.ranked.low p (omega arith));
}

module _ {base : ℕ} {es : List (Edge ℕ)} {ws layers xs ends values : List ℕ} {r : ℕ} (O : Ordered base es ws layers xs ends values r) (E : EdgesOk es) where
  pub heights_low : (i : ℕ) → i < length ws → value_of base (get_or ws i 0) ≤ 2147483648
  heights_low i h =
      let k : get_or ws i 0 % 8192 < length es = known O i h in
      E.range_y (value_of base (get_or ws i 0)) (ap (has (value_of base (get_or ws i 0))) (edges_ys es) ∙ at_has (value_of base (get_or ws i 0)) (map y_of es) (record {
        place = get_or ws i 0 % 8192;
        within = omega (arith, length-map es y_of);
        is = map_at y_of es (get_or ws i 0 % 8192) no_edge 0 k ∙ sym (height O i h);
      }))

  pub values_low : (k : ℕ) → get_or (take r values) k 0 ≤ 2147483648
  values_low k = go (dec_lt k (length (take r values)))
    where
      go : Dec (k < length (take r values)) → get_or (take r values) k 0 ≤ 2147483648
      go (yes h) = E.range_x (get_or (take r values) k 0) (values_are O (get_or (take r values) k 0) ∙ at_has (get_or (take r values) k 0) (take r values) (record { place = k; within = h; is = refl }))
      go (no h) = omega (arith, get_or-eq_default (take r values) 0 {n = k} (omega arith))
