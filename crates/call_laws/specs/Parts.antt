-- Demand 3, over the calls: work by parts equals work at once, and cells of AND plus cells of OR equal the cells of both. Assumes nothing.
--
--   whole_by_parts    WORK BY PARTS: with the part's kind 0 records put in as an unused letter's layer, the shortened text gives the whole's records
--   and_plus_or       AND PLUS OR: the areas of `(s)*(t)` and `(s)+(t)` are together those of s and t
use Rattle.std.specs.Prelude.{◌≡◌, Bool, false, ◌&&◌, ◌||◌, ℕ, ◌+◌, ◌≤◌, eqb, ℤ}
use Rattle.std.proofs.Math.Path.{ap, fun_ext}
use Rattle.std.proofs.Common.{ap₂, ◌∙◌}
use mathlib.Core.List.{List, ◌∷◌, ◌++◌}
use Prim.Native.Char.{code}
use Rattle.meaning.specs.Numbers.{pick, limit}
use Rattle.meaning.specs.Answers.{accepted}
use Rattle.meaning.specs.Edges.{Edge, edges_of, edge_numbers, on}
use Rattle.meaning.specs.Expression.{Expr, Handed, nothing, with_layer, eval, sum, Is, Judged}
use Rattle.meaning.specs.Cells.{handed, inside, Within}
use Rattle.meaning.specs.Records.{result, put_in}
use Rattle.meaning.specs.Area.{cells}
use Rattle.meaning.specs.Calls.{cells_of, records_of, area_of}
use Rattle.basic_laws.specs.Lists.{All}
use Rattle.basic_laws.specs.Fours.{edges_beside}
use Rattle.laws.specs.Covered.{inside_within}
use Rattle.laws.specs.Accepting.{AcceptedEdges}
use Rattle.laws.specs.Parts.{by_parts, cells_and_or}
use Rattle.expression_laws.specs.Meanings.{one_value, means_at}
use Rattle.expression_laws.specs.Judging.{accepted_says}
use Rattle.expression_laws.specs.Replace.{Unused}
use Rattle.expression_laws.specs.Parts.{around, shorter_means, both, and_means, or_means}

-- an accepted text does not hold of nothing
pub holds_not : (text : List ℕ) (e : Expr) → Judged text (accepted 0) → Is sum text e → eval (λ c. false) e ≡ false
holds_not text e j is = one_value text {h = nothing} (means_at text (e, is) nothing) (accepted_says text j).bounded

-- the cells of an accepted call lie in the range
pub cells_within : (ns : List ℤ) (text : List ℕ) (e : Expr) → AcceptedEdges 7 limit ns → Judged text (accepted 0) → Is sum text e → Within limit (cells_of ns e)
unfolding cells_of
cells_within ns text e a j is = inside_within 7 limit (λ h. eval h e) (holds_not text e j is) (edges_of ns) a.list.sound a.closed

module _ (ns : List ℤ) (a : AcceptedEdges 7 limit ns) (x : ℕ) (below : x ≤ 7) (pre part post : List ℕ) (free : Unused x (around pre part post)) (new : All (λ e. on x e ≡ false) (edges_of ns))
    (ok-part : Judged part (accepted 0)) where
  pub whole_by_parts : (e p s : Expr) → Is sum (around pre part post) e → Is sum part p → Is sum (pre ++ ((code "a" + x) ∷ post)) s
      → records_of (ns ++ edge_numbers (put_in x (records_of ns p))) s ≡ records_of ns e
  unfolding records_of cells_of
  whole_by_parts e p s is_whole is-part is-short =
      ap (λ (es : List (Edge ℤ)). result limit (inside (λ h. eval h s) es)) (edges_beside ns (put_in x (records_of ns p)) a.list.fours)
      ∙ ap (result limit) (by_parts x limit (λ h. eval h s) (λ h. eval h p) (edges_of ns) new (cells_within ns part p a ok-part is-part))
      ∙ ap (λ (holds : Handed → Bool). result limit (inside holds (edges_of ns))) (fun_ext same)
    where
      same : (h : Handed) → eval (λ b. pick (eqb b x) (eval h p) (h b)) s ≡ eval h e
      same h =
          one_value (pre ++ ((code "a" + x) ∷ post)) {h = with_layer h x (eval h p)}
          (means_at (pre ++ ((code "a" + x) ∷ post)) (s, is-short) (with_layer h x (eval h p)))
          (shorter_means h x below pre part post (eval h p) (means_at part (p, is-part) h) free (means_at (around pre part post) (e, is_whole) h))

pub and_plus_or : (ns : List ℤ) (s t : List ℕ) (e f g h : Expr) → Is sum s e → Is sum t f → Is sum (both s (code "*") t) g → Is sum (both s (code "+") t) h
    → area_of ns g + area_of ns h ≡ area_of ns e + area_of ns f
unfolding area_of cells_of inside
and_plus_or ns s t e f g h is-s is-t is-and is-or =
    ap₂ ◌+◌ (ap (cells limit) (fun_ext (λ i. fun_ext (λ j. ands (handed (edges_of ns) i j))))) (ap (cells limit) (fun_ext (λ i. fun_ext (λ j. ors (handed (edges_of ns) i j)))))
    ∙ cells_and_or limit (λ i j. eval (handed (edges_of ns) i j) e) (λ i j. eval (handed (edges_of ns) i j) f)
  where
    ands : (v : Handed) → eval v g ≡ (eval v e && eval v f)
    ands v = one_value (both s (code "*") t) {h = v} (means_at (both s (code "*") t) (g, is-and) v) (and_means (means_at s (e, is-s) v) (means_at t (f, is-t) v))

    ors : (v : Handed) → eval v h ≡ (eval v e || eval v f)
    ors v = one_value (both s (code "+") t) {h = v} (means_at (both s (code "+") t) (h, is-or) v) (or_means (means_at s (e, is-s) v) (means_at t (f, is-t) v))
