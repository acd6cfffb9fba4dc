-- Run and area of an example, by computation. Assumes nothing.
--
--   shaped ns        whole edges, none of them flat, and not too many, as a test
--   run_is           what a run, and the area call, answer for a fit list and a text that is read as an expression: records and cells as computed
--   refusal_is       and what they answer where the text is refused
--   open_is          and where the list is not closed
use Rattle.std.specs.Prelude.{◌≡◌, refl, Bool, true, false, not, ◌&&◌, List, ◌++◌, ℕ, ◌+◌, ◌*◌, ◌/◌, ◌%◌, ◌≤◌, leb, eqb, ℤ, length, drop}
use Rattle.std.proofs.Common.{sym, ap, ◌∙◌, arith, le_refl}
use Rattle.std.proofs.Math.Path.{subst}
use borrow.Author.Tests.{leb-true, eqb-true}
use Rattle.meaning.specs.Numbers.{limit}
use Rattle.meaning.specs.Answers.{Answer, accepted, First, not_closed}
use Rattle.meaning.specs.Edges.{Edge, edges_of, west, east, on, number, Closed, sound_edge, flat, edge_rows}
use Rattle.meaning.specs.Expression.{Expr, eval, sum, Is, Judged}
use Rattle.meaning.specs.Records.{numbers_of}
use Rattle.meaning.specs.Calls.{cells_of, records_of, area_of, outcome, call_rows, Runs, Areas}
use Rattle.basic_laws.specs.Tests.{and_left, and_right}
use Rattle.basic_laws.specs.Lists.{All, all_map, all_by, all_by_holds}
use Rattle.basic_laws.specs.Sound.{Sound, SoundList}
use Rattle.basic_laws.specs.Sums.{sum_of}
use Rattle.grid_laws.specs.AreaLaws.{plus, minus}
use Rattle.expression_laws.specs.Reader.{got, a_sum, reads}
use Rattle.expression_laws.specs.Meanings.{read_whole}
use Rattle.expression_laws.specs.Judging.{answer_to, answer_to_right}
use Rattle.laws.specs.Accepting.{Passed, edges_open, edges_pass, refused}
use Rattle.call_laws.specs.Refusals.{call_stops, call_text, run_refused, run_written, area_refused, area_given}
use Rattle.examples.specs.Shown.{fit, shown, levels, fit_sound, fit_closed, result_shown, cells_shown}

unfoldable pub shaped : List ℤ → Bool
shaped ns = eqb (length ns % 4) 0 && (leb (length ns / 4) 4096 && all_by (λ e. not (flat e)) (edges_of ns))

all_sloping : (es : List (Edge ℤ)) → all_by (λ e. not (flat e)) es ≡ true → All (λ e. flat e ≡ false) es
all_sloping es h = all_map (λ e. not (flat e) ≡ true) (λ e. flat e ≡ false) es (λ e u. off (flat e) u) (all_by_holds (λ e. not (flat e)) es h)
  where
    off : (b : Bool) → not b ≡ true → b ≡ false
    off true h = sym h
    off false h = refl

module _ (ns : List ℤ) (h : shaped ns ≡ true) where
  fours : length ns % 4 ≡ 0
  unfolding shaped
  fours = eqb-true (length ns % 4) 0 (and_left (eqb (length ns % 4) 0) _ h)

  few : length ns / 4 ≤ 4096
  unfolding shaped
  few = leb-true (length ns / 4) 4096 (and_left (leb (length ns / 4) 4096) _ (and_right (eqb (length ns % 4) 0) _ h))

  list : Sound 7 limit (edges_of ns) → SoundList 7 limit ns
  list s = record { fours = fours; few = few; sound = s }

  none_flat : All (λ e. flat e ≡ false) (edges_of ns)
  unfolding shaped
  none_flat = all_sloping (edges_of ns) (and_right (leb (length ns / 4) 4096) _ (and_right (eqb (length ns % 4) 0) _ h))

  pub open_is : all_by (sound_edge 7 limit) (edges_of ns) ≡ true → (c : ℕ) (i : ℤ) → (number (λ e. on c e && west i e) (edges_of ns) ≡ number (λ e. on c e && east i e) (edges_of ns) → ⊥)
      → (text : List ℕ) → ((out : List ℤ) → Runs ns text out (outcome not_closed out)) × Areas ns text not_closed
  unfolding Closed
  open_is s c i n text =
      let x = call_stops ns text not_closed (edges_open 7 limit ns (list (all_by_holds (sound_edge 7 limit) (edges_of ns) s)) none_flat (λ k. n (k c i))) (refused not_closed 0 (λ z. omega arith)) in
      ((λ out. run_refused ns text out not_closed x (refused not_closed 0 (λ z. omega arith))), area_refused ns text not_closed x (refused not_closed 0 (λ z. omega arith)))

  module _ (fits : fit (edges_of ns) ≡ true) (text : List ℕ) where
    edges : First (edge_rows 7 limit ns) Passed (accepted 0)
    edges = edges_pass 7 limit ns (record { list = list (fit_sound (edges_of ns) fits); sloping = none_flat; closed = fit_closed (edges_of ns) fits })

    pub refusal_is : (a : Answer) → answer_to text ≡ a → (a.number ≡ 0 → ⊥) → ((out : List ℤ) → Runs ns text out (outcome a out)) × Areas ns text a
    refusal_is a e f =
        let x = call_text ns text a edges (subst (Judged text) e (answer_to_right text)) in
        ((λ out. run_refused ns text out a x (refused a 0 f)), area_refused ns text a x (refused a 0 f))

    module _ (e : Expr) (r : reads text a_sum 0 ≡ got e (length text)) (ok : answer_to text ≡ accepted 0) (empty : eval (λ c. false) e ≡ false) where
      is : Is sum text e
      is = read_whole text r (le_refl (length text))

      passes : First (call_rows ns text) Passed (accepted 0)
      passes = call_text ns text (accepted 0) edges (subst (Judged text) ok (answer_to_right text))

      records : records_of ns e ≡ shown (λ h. eval h e) (edges_of ns)
      unfolding records_of cells_of
      records = result_shown (edges_of ns) fits (λ h. eval h e) empty

      pub area_is : (n : ℕ) → sum_of plus (levels (λ h. eval h e) (edges_of ns)) ≡ n + sum_of minus (levels (λ h. eval h e) (edges_of ns)) → Areas ns text (accepted n)
      unfolding area_of cells_of
      area_is n s =
          let q : area_of ns e ≡ n = omega (arith, cells_shown (edges_of ns) fits (λ h. eval h e) empty) in
          subst (λ (k : ℕ). Areas ns text (accepted k)) q (area_given ns text passes e is)

      pub run_is : (rs : List ℤ) (k : ℕ) → numbers_of (shown (λ h. eval h e) (edges_of ns)) ≡ rs → length (shown (λ h. eval h e) (edges_of ns)) ≡ k
          → (out : List ℤ) → 4 * k ≤ length out → Runs ns text out (outcome (accepted k) (rs ++ drop (4 * k) out))
      run_is rs k p q out h =
          let m : length (records_of ns e) ≡ k = ap length records ∙ q in
          let l : 4 * length (records_of ns e) ≤ length out = omega arith in
          subst (λ (z : List ℤ). Runs ns text out (outcome (accepted k) (z ++ drop (4 * k) out))) (ap numbers_of records ∙ p)
          (subst (λ (z : ℕ). Runs ns text out (outcome (accepted z) (numbers_of (records_of ns e) ++ drop (4 * z) out))) m (run_written ns text out passes e is l))
