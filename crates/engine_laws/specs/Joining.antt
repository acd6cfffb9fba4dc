-- THE JOIN: for a call that refusals 1 to 9 let pass, what the sweep over its edges finds is the result, and the area. Assumes nothing.
--
--   accepted_call          what is accepted: the edges, and a text that is an expression and does not hold of nothing
--   passed_is, passed_first   an answer of rows 1 to 9 whose number is 0 is `accepted 0`
--   run_stopped, area_stopped   an answer of rows 1 to 9 with another number is the refusal of the call
--   sound                  the edges, in steps, are fit for the sweep
--   empty, holds           the table of the covers is the expression, and does not hold of nothing
--   cells_are              the cells of the edges in steps are those of the call
--   records_are, area_are  and so are the records, and the area
--   levels                 the horizontals of all words are those of the call, by ranks
--   run_fits, run_lacks    the outcome of a run with room for all records, and with too little
--   run_joined             so what a sweep writes meets the contract of run
--   area_joined            what it weighs meets the contract of area
use Rattle.std.specs.Prelude.{◌≡◌, Bool, false, ℤ, length, get_or, take, drop}
use Rattle.std.proofs.Common.{sym, ◌∙◌, subst, arith}
use Rattle.std.proofs.Math.Path.{ap, ap₂, fun_ext}
use mathlib.Core.List.{List, [], ◌++◌, map, append-nil}
use Prim.Native.Nat.{ℕ, ◌+◌, ◌*◌, ◌^◌, ◌<◌, ◌≤◌}
use Rattle.std.proofs.Math.Decide.{dec_lt}
use Rattle.std.proofs.lemmas.List.{length-map}
use Rattle.std.proofs.Math.ListN.{length-append}
use Rattle.meaning.specs.Numbers.{limit}
use Rattle.meaning.specs.Answers.{Answer, accepted, Row, First, too_little_room}
use Rattle.meaning.specs.Edges.{Edge, edges_of}
use Rattle.meaning.specs.Expression.{Expr, eval, nothing, sum, Is, refusals, Judged}
use Rattle.meaning.specs.Cells.{Within, level, upright}
use Rattle.meaning.specs.Records.{Record, numbers_of, kind_of, result}
use Rattle.meaning.specs.Calls.{cells_of, records_of, area_of, outcome, call_rows, Runs, Areas}
use Rattle.basic_laws.specs.Bits.{of_bits}
use Rattle.basic_laws.specs.Steps.{lowered}
use Rattle.basic_laws.specs.Sound.{lifted}
use Rattle.basic_laws.specs.Sums.{sum_of}
use Rattle.basic_laws.specs.Fours.{edges_length}
use Rattle.basic_laws.specs.Tables.{first_later}
use Rattle.grid_laws.specs.Plane.{inside_n, level_n, kind_n, result_n}
use Rattle.grid_laws.specs.AreaLaws.{plus, minus, cells_n}
use Rattle.grid_laws.specs.Wrap.{Owes}
use Rattle.laws.specs.View.{view, result_view, levels_view, cells_view}
use Rattle.laws.specs.Covered.{inside_view, inside_within}
use Rattle.laws.specs.Parts.{kinds_even}
use Rattle.laws.specs.Accepting.{Passed, AcceptedEdges, edges_accepted}
use Rattle.expression_laws.specs.Cover.{Table}
use Rattle.expression_laws.specs.Covers.{looked_up}
use Rattle.expression_laws.specs.Meanings.{means_at}
use Rattle.expression_laws.specs.Judging.{Accepted, accepted_says}
use Rattle.call_laws.specs.Judging.{call_silent}
use Rattle.call_laws.specs.Refusals.{run_refused, run_short, run_written, area_refused, area_given}
use Rattle.records.specs.Put.{numbers}
use Rattle.strips.specs.Cover.{holds_of}
use Rattle.horizontal.specs.Words.{on_level}
use Rattle.vertical_laws.specs.Tips.{verticals_n}
use Rattle.vertical_laws.specs.Ranked.{on_upright}
use Rattle.vertical_laws.proofs.Ranked.{verticals_ranked}
use Rattle.vertical_laws.specs.Whole.{Horizontals}
use Rattle.sweep_laws.specs.Lines.{lines_to}
use Rattle.strip_laws.specs.Ordered.{EdgesOk, Ordered}
use Rattle.strip_laws.proofs.Found.{horizontals_are, area_found}
use Rattle.engine_laws.specs.Sounding.{edges_ok}

pub record AcceptedCall (ns : List ℤ) (text : List ℕ) : Type 0 where
  pub edges : AcceptedEdges 7 limit ns
  pub expression : Accepted text

pub accepted_call : (ns : List ℤ) (text : List ℕ) → First (call_rows ns text) Passed (accepted 0) → AcceptedCall ns text
unfolding Judged
accepted_call ns text x = let b = edges_accepted 7 limit ns (refusals text) Passed 0 x in record { edges = b.0; expression = accepted_says text b.1 }

module _ (ns : List ℤ) (text : List ℕ) (a : Answer) (x : First (call_rows ns text) Passed a) where
  pub passed_is : a.number ≡ 0 → a ≡ accepted 0
  passed_is h =
      let v : a ≡ accepted a.value = ap (λ (n : ℕ). record { number = n; value = a.value }) h in
      v ∙ first_later (call_rows ns text) [] Passed (accepted a.value)
      (subst (λ (rows : List (Row Answer)). First rows Passed (accepted a.value)) (sym (append-nil (call_rows ns text))) (subst (First (call_rows ns text) Passed) v x))
      (call_silent ns text a.value)

  pub passed_first : a.number ≡ 0 → First (call_rows ns text) Passed (accepted 0)
  passed_first h = subst (First (call_rows ns text) Passed) (passed_is h) x

  pub run_stopped : (out : List ℤ) → (a.number ≡ 0 → ⊥) → Runs ns text out (outcome a out)
  run_stopped out n = run_refused ns text out a x (λ e. n (ap (λ (b : Answer). b.number) e))

  pub area_stopped : (a.number ≡ 0 → ⊥) → Areas ns text a
  area_stopped n = area_refused ns text a x (λ e. n (ap (λ (b : Answer). b.number) e))

module _ (ns : List ℤ) (text : List ℕ) (x : First (call_rows ns text) Passed (accepted 0)) where
  abbrev A : AcceptedCall ns text
  A = accepted_call ns text x

  abbrev e : Expr
  e = A.expression.bounded.expr

  abbrev is : Is sum text e
  is = A.expression.bounded.is

  abbrev es : List (Edge ℕ)
  es = map (lifted limit) (edges_of ns)

  pub sound : EdgesOk (map (lifted limit) (edges_of ns))
  sound = edges_ok (edges_of ns) (omega (arith, edges_length ns, A.edges.list.few)) A.edges.list.sound A.edges.closed

  within : Within limit (cells_of ns e)
  unfolding cells_of
  within = inside_within 7 limit (λ h. eval h e) (sym A.expression.bounded.value) (edges_of ns) A.edges.list.sound A.edges.closed

  -- as many records of each kind
  both_kinds : length (records_of ns e) ≡ 2 * length (kind_of limit 0 (level (cells_of ns e)))
  unfolding records_of result
  both_kinds = omega (arith, length-append (kind_of limit 0 (level (cells_of ns e))) (kind_of limit 1 (upright (cells_of ns e))), kinds_even limit (cells_of ns e) within)

  module _ (truth : List Bool) (t : Table text truth) where
    pub empty : get_or truth 0 false ≡ false
    unfolding of_bits
    empty = looked_up t nothing A.expression.bounded

    pub holds : holds_of truth ≡ (λ h. eval h (accepted_call ns text x).expression.bounded.expr)
    unfolding holds_of
    holds = fun_ext (λ h. looked_up t h (means_at text (e, is) h))

    abbrev g : ℕ → ℕ → Bool
    g = inside_n (holds_of truth) es

    cells_are : view limit (cells_of ns e) ≡ g
    unfolding cells_of
    cells_are = inside_view 7 limit (λ h. eval h e) (edges_of ns) A.edges.list.sound ∙ ap (λ (f : (ℕ → Bool) → Bool). inside_n f es) (sym holds)

    records_are : records_of ns e ≡ map (lowered limit) (result_n 2147483648 g)
    unfolding records_of
    records_are = result_view limit (cells_of ns e) within ∙ ap (λ (h : ℕ → ℕ → Bool). map (lowered limit) (result_n 2147483648 h)) cells_are

    levels_are : length (kind_of limit 0 (level (cells_of ns e))) ≡ length (kind_n 0 (level_n g) 2147483648)
    levels_are =
        ap length (levels_view limit (cells_of ns e) within)
        ∙ length-map (kind_n 0 (level_n (view limit (cells_of ns e))) 2147483648) (lowered limit)
        ∙ ap (λ (h : ℕ → ℕ → Bool). length (kind_n 0 (level_n h) 2147483648)) cells_are

    area_are : area_of ns e ≡ cells_n 2147483648 g
    unfolding area_of
    area_are = cells_view limit (cells_of ns e) ∙ ap (cells_n 2147483648) cells_are

    -- vx are the distinct x, and hs the horizontals of all words, by ranks
    module _ {base : ℕ} {ws layers xs ends values : List ℕ} {r : ℕ} (O : Ordered base (map (lifted limit) (edges_of ns)) ws layers xs ends values r)
        (vx : List ℕ) (x-are : vx ≡ take r values) (hs : List (Record ℕ)) (lines : hs ≡ lines_to base ws layers ends truth r (length ws)) where
      pub levels : Horizontals 2147483648 (inside_n (holds_of truth) (map (lifted limit) (edges_of ns))) vx hs
      levels = rw lines (horizontals_are O sound truth empty vx x-are)

      abbrev found : List (Record ℕ)
      found = map (on_level vx) hs ++ map (on_upright vx) (verticals_n (length vx) hs)

      found_is : found ≡ result_n 2147483648 g
      unfolding result_n
      found_is = ap₂ (λ (a b : List (Record ℕ)). a ++ b) levels.are (verticals_ranked 2147483648 g levels.bounded vx hs levels.rising levels.last levels.ranks levels.are)

      numbers_are : numbers found ≡ numbers_of (records_of ns e)
      unfolding numbers
      numbers_are = ap (λ (rs : List (Record ℕ)). numbers_of (map (lowered limit) rs)) found_is ∙ ap numbers_of (sym records_are)

      as_many : length (records_of ns e) ≡ 2 * length hs
      as_many =
          let n : length (kind_n 0 (level_n g) 2147483648) ≡ length hs = ap length (sym levels.are) ∙ length-map hs (on_level vx) in
          omega (arith, both_kinds, levels_are)

      module _ (out : List ℤ) where
        pub run_fits : 8 * length hs ≤ length out
            → Runs ns text out (outcome (accepted (2 * length hs)) (numbers (map (on_level vx) hs ++ map (on_upright vx) (verticals_n (length vx) hs)) ++ drop (8 * length hs) out))
        run_fits h =
            let n : 8 * length hs ≡ 4 * length (records_of ns e) = omega (arith, as_many) in
            rw (numbers_are, ← as_many, n) (run_written ns text out x e is (omega arith))

        pub run_lacks : length out < 8 * length hs → Runs ns text out (outcome (too_little_room (2 * length hs)) out)
        run_lacks h = rw (← as_many) (run_short ns text out x e is (omega (arith, as_many)))

        pub run_joined : (out' : List ℤ) (a : Answer)
            → (8 * length hs ≤ length out → (a ≡ accepted (2 * length hs)) × (out' ≡ numbers (map (on_level vx) hs ++ map (on_upright vx) (verticals_n (length vx) hs)) ++ drop (8 * length hs) out))
            → (length out < 8 * length hs → (a ≡ too_little_room (2 * length hs)) × (out' ≡ out))
            → Runs ns text out (outcome a out')
        run_joined out' a whole short = go (dec_lt (length out) (8 * length hs))
          where
            go : Dec (length out < 8 * length hs) → Runs ns text out (outcome a out')
            go (yes h) = rw ((short h).0, (short h).1) (run_lacks h)
            go (no h) = let l : 8 * length hs ≤ length out = omega arith in rw ((whole l).0, (whole l).1) (run_fits l)

      pub area_joined : (total : ℕ) → total < 2 ^ 64
          → ((P M : ℕ) → Owes 0 P M → Owes total (P + sum_of plus (map (on_level vx) hs)) (M + sum_of minus (map (on_level vx) hs)))
          → Areas ns text (accepted total)
      area_joined total h weighed = rw (area_found O sound truth empty vx x-are total h (rw lines at weighed), ← area_are) (area_given ns text x e is)
