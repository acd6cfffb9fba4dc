-- A walk's refusals, and its end. Assumes nothing.
--
--   open_call, text_call   refusal 5; else the text decides
--   text_stopped       a walk that ends with a refusal of the text
--   at_start           fresh arrays are at the start of the sweep
--   rank_ready         the list can be ranked
--   Call, call_ready   a call that refusals 1 to 9 let pass, its columns, and the table of its text
--   sweep_ready        its sweep has what it is asked
--   sweep_told         and what it writes is what run and area answer
--   part_back, counters_back   the length of an array whose part came back
use Rattle.std.specs.Prelude.{◌≡◌, refl, Result, Ok, Err, Bool, List, ◌++◌, map, ℕ, ◌-◌, ◌*◌, ◌^◌, ◌<◌, ◌≤◌, ℤ, take, drop, replicate}
use Rattle.std.proofs.Common.{sym, ◌∙◌, subst, arith, length-append, length-drop, ext_get_or, length-take-le, get_or-take}
use Rattle.std.proofs.Math.Path.{ap}
use Rattle.std.proofs.Math.Bool.{true, false}
use Rattle.std.proofs.Math.Nat.{sub-zero}
use Rattle.std.proofs.Math.ListN.{length}
use Rattle.std.proofs.lemmas.List.{length-replicate, get_or-replicate}
use borrow.Author.Tests.{le-leb, lt-leb}
use Rattle.meaning.specs.Numbers.{limit, pick}
use Rattle.meaning.specs.Answers.{accepted, First, not_closed, too_little_room}
use Rattle.meaning.specs.Edges.{Edge, edges_of, Closed}
use Rattle.meaning.specs.Expression.{Judged}
use Rattle.meaning.specs.Records.{Record}
use Rattle.meaning.specs.Calls.{call_rows}
use Rattle.answers.specs.declared.Refusal.{Refusal}
use Rattle.answers.specs.declared.Refusal.TheVariants.{TooLittleRoom}
use Rattle.answers.specs.Told.{answer_of, verdict, told}
use Rattle.basic_laws.specs.Sound.{lifted}
use Rattle.laws.specs.Accepting.{Passed, refused}
use Rattle.expression_laws.specs.Cover.{Table}
use Rattle.call_laws.specs.Refusals.{call_stops, call_text}
use Rattle.edges.specs.Answering.{list_rows}
use Rattle.edges.specs.Refusals.{fine_list, open_answer, fine_answer}
use Rattle.axis.specs.Axes.{InOrder}
use Rattle.crossings.specs.OnlyOne.{swept_fresh}
use Rattle.sweep_laws.specs.Lines.{lines_to}
use Rattle.sweep_laws.specs.Steps.{place_start}
use Rattle.sweep.specs.Filling.{Given, At}
use Rattle.strip_laws.specs.Ordered.{EdgesOk, Ordered}
use Rattle.strip_laws.specs.Ready.{ordered_of}
use Rattle.strip_laws.proofs.Fresh.{closed_ranked}
use Rattle.engine_laws.specs.Ready.{Ready, ready}
use Rattle.engine_laws.specs.Joining.{sound, empty, levels, run_joined, area_joined}
use Rattle.front.specs.Ranking.{RankOk, InRanks, BalancedAs}
use Rattle.writing.specs.declared.Found.{Found}
use Rattle.writing.specs.Writing.{written, fitting, Wrote, Even, WriteOk}
use Rattle.walking.specs.Walks.{Walks}
use Rattle.walking.specs.OneWalk.{stopped}
use Rattle.walking.specs.Working.{Zeros, Fresh, WorkOk, SweepOk, Sweeps}

-- ---- refusals

module _ (ns : List ℤ) (text : List ℕ) (J : First (list_rows 7 limit ns) Passed (accepted 0)) where
  pub open_call : (Closed (edges_of ns) → ⊥) → First (call_rows ns text) Passed not_closed
  open_call h = call_stops ns text not_closed (open_answer limit ns (Ok tt) J refl h) (refused not_closed 0 (λ z. omega arith))

  pub text_call : Closed (edges_of ns) → (v : Result (Unit {0}) Refusal) → Judged text (verdict v) → First (call_rows ns text) Passed (verdict v)
  text_call h v t = call_text ns text (verdict v) (fine_answer limit ns (Ok tt) J refl h) t

  pub text_stopped : (out : List ℤ) → Closed (edges_of ns) → (r : Refusal) → Judged text (answer_of r) → Walks ns text out out (Err r)
  text_stopped out h r t = stopped ns text out r (text_call h (Err r) t)

-- ---- fresh arrays

module _ {n : ℕ} {c covers told marks cs loc : List ℕ} (F : Fresh n c covers told marks cs loc) where
  pub counts_are : c ≡ replicate (8 * n) 8192
  counts_are =
      ext_get_or 0 c (replicate (8 * n) 8192) (F.counts.long ∙ sym (length-replicate {A = ℕ} (8 * n) 8192))
      (λ p h. let u : p < 8 * n = omega (arith, F.counts.long) in F.counts.fresh p u ∙ sym (get_or-replicate {A = ℕ} (8 * n) p 8192 0 u))

  zeros_are : (l : List ℕ) → Zeros n l → l ≡ replicate n 0
  zeros_are l Z =
      ext_get_or 0 l (replicate n 0) (Z.long ∙ sym (length-replicate {A = ℕ} n 0))
      (λ p h. let u : p < n = omega (arith, Z.long) in Z.none p u ∙ sym (get_or-replicate {A = ℕ} n p 0 0 u))

  pub at_start : (ws layers ends : List ℕ) → At n ws layers ends 0 c covers told marks
  at_start ws layers ends = record {
    place = place_start ws;
    swept = rw (counts_are, zeros_are covers F.covers_none) (swept_fresh n ws layers ends);
    told_is = zeros_are told F.told_none ∙ sym (zeros_are covers F.covers_none);
    fresh = F.marks_none;
  }

  pub still_fresh : {c' : List ℕ} → c' ≡ c → Fresh n c' covers told marks cs loc
  still_fresh e = subst (λ (l : List ℕ). Fresh n l covers told marks cs loc) (sym e) F

  pub some_counters : (k : ℕ) → k ≤ n → Zeros k (take k cs)
  some_counters k h = record {
    long = length-take-le k cs (omega (arith, F.counters.long));
    none = λ p u. get_or-take k cs p 0 u ∙ F.counters.none p (omega arith);
  }

pub rank_ready : {ns : List ℤ} {n : ℕ} {layers ys xs ends vx ws room c covers told marks cs loc : List ℕ} → WorkOk ns n layers ys xs ends vx ws room c covers told marks cs loc
    → RankOk ns layers ys xs ends vx ws room n c
rank_ready {ns} {n} {layers} {ys} {xs} {ends} {vx} {ws} {room} {c} W = record {
  sound = fine_list limit ns (Ok tt) W.judged refl;
  as_layers = W.as_layers;
  as_ys = W.as_ys;
  as_xs = W.as_xs;
  as_ends = W.as_ends;
  as_values = W.as_values;
  as_words = W.as_words;
  as_room = W.as_room;
  strips = W.strips;
  rows_few = W.rows_few;
  long = W.fresh.counts.long;
  fresh = λ p h. W.fresh.counts.fresh p (omega (arith, W.fresh.counts.long));
}

-- ---- the sweep

pub record Call (ns : List ℤ) (text layers ys xs ends values : List ℕ) (n nx : ℕ) (truth : List Bool) : Type 0 where
  pub passed : First (call_rows ns text) Passed (accepted 0)
  pub ranks : InRanks ns layers ys xs ends values n nx
  pub long_ends : length ends ≡ length xs
  pub rows_few : n ≤ 8192
  pub table : Table text truth

pub call_ready : {ns : List ℤ} {text : List ℕ} {n nx : ℕ} {layers₀ ys₀ xs₀ ends₀ vx₀ ws₀ room₀ c₀ covers told marks cs loc layers ys xs ends values c : List ℕ} {truth : List Bool}
    → WorkOk ns n layers₀ ys₀ xs₀ ends₀ vx₀ ws₀ room₀ c₀ covers told marks cs loc → BalancedAs ns layers ys xs ends values n nx c₀ c → length xs ≡ length xs₀ → length ends ≡ length ends₀
    → Judged text (accepted 0) → Table text truth → Call ns text layers ys xs ends values n nx truth
call_ready {ns} {text} W B xs_long ends_long t T = record {
  passed = text_call ns text W.judged B.closed (Ok tt) t;
  ranks = B.ranks;
  long_ends = omega (arith, W.as_ends, W.as_xs);
  rows_few = W.rows_few;
  table = T;
}

module _ {ns : List ℤ} {text layers ys xs ends values : List ℕ} {n nx : ℕ} {truth : List Bool} (K : Call ns text layers ys xs ends values n nx truth) (vx : List ℕ) (x-are : vx ≡ take nx values) where
  abbrev X : First (call_rows ns text) Passed (accepted 0)
  X = K.passed

  abbrev R : InRanks ns layers ys xs ends values n nx
  R = K.ranks

  abbrev t : Table text truth
  t = K.table

  abbrev es : List (Edge ℕ)
  es = map (lifted limit) (edges_of ns)

  E : EdgesOk (map (lifted limit) (edges_of ns))
  E = sound ns text X

  x_long : length vx ≡ nx
  x_long = ap length x-are ∙ length-take-le nx values R.ranked.within

  module _ (base : ℕ) (ws : List ℕ) (I : InOrder base ys ws) where
    O : Ordered base (map (lifted limit) (edges_of ns)) ws layers xs ends values nx
    O = ordered_of es R.steps.layers_are R.steps.ys_are R.steps.xs_are I R.ranked

    abbrev hs : List (Record ℕ)
    hs = lines_to base ws layers ends truth (length vx) (length ws)

    lines : lines_to base ws layers ends truth (length vx) (length ws) ≡ lines_to base ws layers ends truth nx (length ws)
    lines = ap (λ (k : ℕ). lines_to base ws layers ends truth k (length ws)) x_long

    can : Ready n base ws layers ends values nx
    can = ready O E R.steps.layers_are K.long_ends n K.rows_few R.within

    given : Given base ws layers ends truth vx n
    given = record {
      words = can.words;
      ascending = can.ascending;
      heights = can.heights;
      rising = rw x-are can.rising;
      each = λ i. rw x-are (can.low i);
      strips = omega (arith, x_long, R.within);
      ends_in = λ p h. omega (arith, x_long, can.ranks p h);
      long_truth = t.size;
      empty = empty ns text X truth t;
    }

    even : Even n ws layers ends
    unfolding Even
    even c m S = let q = closed_ranked O E.closed S in rw (q.0, q.1) (swept_fresh n ws layers ends)

    module _ {c covers told marks cs₀ loc : List ℕ} (F : Fresh n c covers told marks cs₀ loc) (cs : List ℕ) (cs-are : cs ≡ take nx cs₀) where
      m_long : length covers ≡ n
      m_long = F.covers_none.long

      Z : Zeros nx cs
      Z = rw cs-are (some_counters F nx R.within)

      write_ready : WriteOk base ws layers ends truth vx loc cs c covers told marks
      write_ready = record {
        given = rw m_long given;
        at = rw m_long (at_start F ws layers ends);
        room = omega (arith, x_long, R.within, F.words);
        counters = Z.long ∙ sym x_long;
        none = λ i h. Z.none i (omega (arith, Z.long));
        even = rw m_long even;
        cell = _;
        levels = levels ns text X truth t O vx x-are hs lines;
      }

    module _ {out out' : List ℤ} {f : Found} (W : Wrote vx (lines_to base ws layers ends truth (length vx) (length ws)) out out' f) (small : f.cells < 2 ^ 64) where
      wrote_all : 8 * length hs ≤ length out → (told f.records ≡ accepted (2 * length hs)) × (out' ≡ written vx hs out)
      wrote_all h =
          let b : fitting hs out ≡ true = le-leb (8 * length hs) (length out) h in
          (ap told (W.records ∙ ap (λ (p : Bool). pick p (Ok (2 * length hs)) (Err (TooLittleRoom (2 * length hs)))) b), W.buffer ∙ ap (λ (p : Bool). pick p (written vx hs out) out) b)

      short : length out < 8 * length hs → (told f.records ≡ too_little_room (2 * length hs)) × (out' ≡ out)
      short h =
          let b : fitting hs out ≡ false = lt-leb (8 * length hs) (length out) h in
          (ap told (W.records ∙ ap (λ (p : Bool). pick p (Ok (2 * length hs)) (Err (TooLittleRoom (2 * length hs)))) b), W.buffer ∙ ap (λ (p : Bool). pick p (written vx hs out) out) b)

      walked : Walks ns text out out' (Ok f)
      unfolding written
      walked = record {
        run = run_joined ns text X truth t O vx x-are hs lines out out' (told f.records) wrote_all short;
        area = area_joined ns text X truth t O vx x-are hs lines f.cells small W.cells.owes;
      }

-- what is lent of the arrays: the first nx counters and x, and as many words as there are edges
module _ {ns : List ℤ} {text layers ys xs ends values : List ℕ} {n nx : ℕ} {truth : List Bool} (K : Call ns text layers ys xs ends values n nx truth) where
  pub sweep_ready : {c covers told marks cs loc : List ℕ} → Fresh n c covers told marks cs loc → (ws room : List ℕ) → length ys ≤ 8192 → length layers ≡ length ys → length ys ≤ length ws → length ys ≤ length room
      → SweepOk ys layers ends truth (take (nx - 0) values) (take (length layers - 0) ws) (take (length layers - 0) room) loc (take (nx - 0) cs) c covers told marks
  sweep_ready {c} {covers} {told} {marks} {cs} F ws room few as_layers in_words_lem in-room = record {
    few = few;
    as_words = length-take-le (length layers - 0) ws (omega arith) ∙ omega arith;
    as_room = length-take-le (length layers - 0) room (omega arith) ∙ omega arith;
    ready = λ base vs I. write_ready K (take (nx - 0) values) (ap (λ (k : ℕ). take k values) (sub-zero nx)) base vs I F (take (nx - 0) cs) (ap (λ (k : ℕ). take k cs) (sub-zero nx));
  }

  pub sweep_told : {out out' : List ℤ} {f : Found} → Sweeps ys layers ends truth (take (nx - 0) values) out out' f → f.cells < 2 ^ 64 → Walks ns text out out' (Ok f)
  sweep_told S small = walked K (take (nx - 0) values) (ap (λ (k : ℕ). take k values) (sub-zero nx)) S.base S.ws S.order S.wrote small

-- the length of an array whose part came back
pub part_back : {A : Type 0} (a b : List A) (m : ℕ) → m ≤ length b → length a ≡ length (take (m - 0) b) → length (a ++ drop (m - 0) b) ≡ length b
part_back a b m h e = length-append a (drop (m - 0) b) ∙ omega (arith, length-drop (m - 0) b, length-take-le (m - 0) b (omega arith))

pub counters_back : {n nx : ℕ} {c covers told marks cs loc : List ℕ} → Fresh n c covers told marks cs loc → nx ≤ n → (a : List ℕ) → length a ≡ length (take (nx - 0) cs) → length (a ++ drop (nx - 0) cs) ≡ length cs
counters_back {n} {nx} {c} {covers} {told} {marks} {cs} F h a e = part_back a cs nx (omega (arith, F.counters.long)) e
