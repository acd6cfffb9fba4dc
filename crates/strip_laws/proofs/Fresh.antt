-- After all words of a closed list the rows are fresh again. Assumes nothing.
--
--   closed_even     in each strip as many edges went west as east
--   closed_ranked   so every count is at zero, and no layer covers
use Rattle.std.specs.Prelude.{◌≡◌, refl, Bool, false, ◌&&◌, ℕ, ◌+◌, ◌*◌, ◌%◌, ◌<◌, ◌≤◌, replicate}
use Rattle.std.proofs.Math.Path.{sym, ap}
use Rattle.std.proofs.Common.{◌∙◌, arith}
use mathlib.Core.List.{List, map}
use Rattle.std.proofs.Math.Decide.{dec_lt}
use Rattle.std.proofs.Math.Dec.{eqb}
use Rattle.std.proofs.Math.ListN.{length, get_or}
use Rattle.std.proofs.lemmas.List.{length-replicate, get_or-replicate}
use Rattle.std.proofs.Math.Seq.{take-length}
use Rattle.meaning.specs.Edges.{Edge, number}
use Rattle.basic_laws.specs.Bits.{of_bits, of_bits_same}
use Rattle.basic_laws.specs.Lists.{all_of, number_none, number_to_map}
use Rattle.basic_laws.specs.Tests.{and_off, spans_above}
use Rattle.grid_laws.specs.Covering.{covers_none}
use Rattle.grid_laws.specs.Plane.{goes_west, goes_east, ClosedN}
use Rattle.strips.specs.Rows.{layer_fits}
use Rattle.crossings.specs.Swept.{covers_by, Swept, edge_of, edges_to}
use Rattle.crossings.specs.OnlyOne.{swept_one}
use Rattle.strip_laws.specs.Ordered.{Ordered}
use Rattle.strip_laws.proofs.Ranked.{known, from_rank, to_rank, words_are, west_word, east_word, strip_at}

none_bits : of_bits 8 (λ _. false) ≡ 0
unfolding of_bits
none_bits = refl

-- rows that as many edges crossed westward as eastward
even_fresh : (n : ℕ) (es : List (Edge ℕ)) → ((l s : ℕ) → number (goes_west l s) es ≡ number (goes_east l s) es) → Swept n es (replicate (8 * n) 8192) (replicate n 0)
even_fresh n es even = record {
  long = length-replicate {A = ℕ} (8 * n) 8192;
  long_covers = length-replicate {A = ℕ} n 0;
  counts = λ l s hl hs. omega (arith, get_or-replicate {A = ℕ} (8 * n) (l * n + s) 8192 0 (omega (arith, layer_fits n l hl)), even l s);
  covers = λ s h. get_or-replicate {A = ℕ} n s 0 0 h ∙ sym (of_bits_same 8 (covers_by es s) (λ _. false) (λ k _. covers_none (number (goes_west k s) es) (number (goes_east k s) es) (even k s)) ∙ none_bits);
}

module _ {base : ℕ} {es : List (Edge ℕ)} {ws layers xs ends values : List ℕ} {r : ℕ} (O : Ordered base es ws layers xs ends values r) (closed : ClosedN es) where
  -- no edge spans a strip from rank r on
  west_past : (l s p : ℕ) → r ≤ s → p < length ws → goes_west l s (edge_of layers ends (get_or ws p 0)) ≡ false
  unfolding goes_west
  west_past l s p h u =
      let k : get_or ws p 0 % 8192 < length es = known O p u in
      ap (λ (b : Bool). eqb (get_or layers (get_or ws p 0 % 8192) 0) l && b) (spans_above _ _ s (omega (arith, from_rank O (get_or ws p 0 % 8192) k)))
      ∙ and_off (eqb (get_or layers (get_or ws p 0 % 8192) 0) l)

  east_past : (l s p : ℕ) → r ≤ s → p < length ws → goes_east l s (edge_of layers ends (get_or ws p 0)) ≡ false
  unfolding goes_east
  east_past l s p h u =
      let k : get_or ws p 0 % 8192 < length es = known O p u in
      ap (λ (b : Bool). eqb (get_or layers (get_or ws p 0 % 8192) 0) l && b) (spans_above _ _ s (omega (arith, to_rank O (get_or ws p 0 % 8192) k)))
      ∙ and_off (eqb (get_or layers (get_or ws p 0 % 8192) 0) l)

  every : (Q : Edge ℕ → Bool) → number Q (edges_to ws layers ends (length ws)) ≡ number Q (map (edge_of layers ends) ws)
  unfolding edges_to
  every Q = ap (λ (vs : List ℕ). number Q (map (edge_of layers ends) vs)) (take-length ws)

  none : (Q : Edge ℕ → Bool) → ((p : ℕ) → p < length ws → Q (edge_of layers ends (get_or ws p 0)) ≡ false) → number Q (map (edge_of layers ends) ws) ≡ 0
  none Q h = number_to_map Q (edge_of layers ends) ws ∙ number_none (λ w. Q (edge_of layers ends w)) ws (all_of _ ws 0 h)

  pub closed_even : (l s : ℕ) → number (goes_west l s) (edges_to ws layers ends (length ws)) ≡ number (goes_east l s) (edges_to ws layers ends (length ws))
  unfolding ClosedN
  closed_even l s = every (goes_west l s) ∙ go (dec_lt s r) ∙ sym (every (goes_east l s))
    where
      go : Dec (s < r) → number (goes_west l s) (map (edge_of layers ends) ws) ≡ number (goes_east l s) (map (edge_of layers ends) ws)
      go (yes h) =
          let T = strip_at O.ranked s h in
          words_are O (edge_of layers ends) (goes_west l s) (goes_west l (get_or values s 0)) (λ p u. west_word O s (get_or values s 0) T l _ p u)
          ∙ closed l (get_or values s 0)
          ∙ sym (words_are O (edge_of layers ends) (goes_east l s) (goes_east l (get_or values s 0)) (λ p u. east_word O s (get_or values s 0) T l _ p u))
      go (no h) = none (goes_west l s) (λ p u. west_past l s p (omega arith) u) ∙ sym (none (goes_east l s) (λ p u. east_past l s p (omega arith) u))

  pub closed_ranked : {n : ℕ} {c m : List ℕ} → Swept n (edges_to ws layers ends (length ws)) c m → (c ≡ replicate (8 * n) 8192) × (m ≡ replicate n 0)
  closed_ranked {n} S = swept_one S (even_fresh n (edges_to ws layers ends (length ws)) closed_even)
