-- Judging an edge list, record after record. Assumes nothing.
--
--   all_rows                THE ROWS OF AN EDGE LIST are those of `judge`, and then the row of a list that is not closed
--   FineTo top L ns k       refusals 1 and 2 do not apply, and the first k records are good
--   fine_start, fine_more   none so far; one record more
--   odd_answer, many_answer, range_answer, equal_answer, none_answer   each answer of `judge` meets its rows
--   refused_answer          a refusal of `judge` is the answer of the whole table
--   fine_list, fine_sloping where it finds nothing: the list is sound, and no edge has from equal to to
--   fine_answer, open_answer   and then the whole table accepts the list, if it is closed, or else refuses it as not closed
--   one_judged              ANSWERS THAT MEET THE CONTRACT OF `judge` ARE EQUAL
use Rattle.std.specs.Prelude.{◌≡◌, refl, true, false, Result, Ok, Err, List, [], ◌∷◌, ◌++◌, ℕ, suc, ◌+◌, ◌/◌, ◌%◌, ◌≤◌, ◌<◌, ℤ, length, get_or, drop}
use Rattle.std.proofs.Common.{sym, ap, ◌∙◌, subst, true≢false, inl, inr, append-nil, zero-add, arith, drop-cons, below_none, below_more}
use Rattle.std.proofs.Math.Decide.{dec_lt, ℕ_discrete}
use Rattle.std.proofs.Math.Seq.{drop-length}
use Rattle.meaning.specs.Answers.{Answer, Row, First, accepted, not_fours, too_many_edges, out_of_range, from_equals_to, not_closed}
use Rattle.meaning.specs.Edges.{Edge, edges_of, Closed, sound_edge, flat, record_rows, edge_rows}
use Rattle.basic_laws.specs.Lists.{All, all_map}
use Rattle.basic_laws.specs.Tables.{Singles, one_answer, not_given, first_stops}
use Rattle.basic_laws.specs.Tests.{is_other}
use Rattle.basic_laws.specs.Fours.{edge_at, none, edges_length, edges_at}
use Rattle.basic_laws.specs.Sound.{SoundList}
use Rattle.laws.specs.Accepting.{Passed, Good, closing, past_good, edges_open, edges_pass, edges_single, refused, not_accepted}
use Rattle.answers.specs.declared.Refusal.{Refusal}
use Rattle.answers.specs.Told.{answer_of, verdict, refusal_number, verdict_same}
use Rattle.edges.specs.Answering.{list_rows}

pub all_rows : (top L : ℕ) (ns : List ℤ) → edge_rows top L ns ≡ list_rows top L ns ++ closing ns
all_rows top L ns = refl

-- ---- the walk over the records

pub record FineTo (top L : ℕ) (ns : List ℤ) (k : ℕ) : Type 0 where
  pub fours : length ns % 4 ≡ 0
  pub few : length ns / 4 ≤ 4096
  pub within : k ≤ length ns / 4
  pub each : (j : ℕ) → j < k → Good top L (edge_at ns j)

pub fine_start : (top L : ℕ) (ns : List ℤ) → length ns % 4 ≡ 0 → length ns / 4 ≤ 4096 → FineTo top L ns 0
fine_start top L ns e h = record { fours = e; few = h; within = omega arith; each = below_none (λ j. Good top L (edge_at ns j)) }

pub fine_more : (top L : ℕ) (ns : List ℤ) (k : ℕ) → FineTo top L ns k → k < length ns / 4 → sound_edge top L (edge_at ns k) ≡ true → flat (edge_at ns k) ≡ false → FineTo top L ns (k + 1)
fine_more top L ns k F h s e = record {
  fours = F.fours;
  few = F.few;
  within = omega arith;
  each = below_more (λ j. Good top L (edge_at ns j)) k F.each (record { sound = s; ends = e });
}

-- ---- answers of `judge`

pub odd_answer : (top L : ℕ) (ns : List ℤ) → (length ns % 4 ≡ 0 → ⊥) → First (list_rows top L ns) Passed not_fours
odd_answer top L ns h = inl (h, refl)

pub many_answer : (top L : ℕ) (ns : List ℤ) → length ns % 4 ≡ 0 → 4096 < length ns / 4 → First (list_rows top L ns) Passed too_many_edges
many_answer top L ns e h = inr (not_given not_fours (λ n. n e), inl (h, refl))

module _ (top L : ℕ) (ns : List ℤ) (k : ℕ) (F : FineTo top L ns k) where
  good : (j : ℕ) → j < k → Good top L (get_or (edges_of ns) j none)
  good j h = subst (Good top L) (sym (edges_at ns j none (omega (arith, F.within)))) (F.each j h)

  -- the rows of the records from k on decide
  from_record : (a : Answer) → First (record_rows top L k (drop k (edges_of ns)) ++ []) Passed a → First (list_rows top L ns) Passed a
  from_record a x = inr (
    not_given not_fours (λ h. h F.fours),
    inr (
      not_given too_many_edges (λ h. omega (arith, F.few)),
      subst (λ (rows : List (Row Answer)). First rows Passed a) (append-nil (record_rows top L 0 (edges_of ns)))
          (past_good top L [] Passed a (edges_of ns) 0 k good (omega (arith, edges_length ns, F.within))
          (subst (λ (n : ℕ). First (record_rows top L n (drop k (edges_of ns)) ++ []) Passed a) (sym (zero-add k)) x)),
    ),
  )

  module _ (more : k < length ns / 4) where
    at_record : (a : Answer) → First (record_rows top L k (get_or (edges_of ns) k none ∷ drop (suc k) (edges_of ns)) ++ []) Passed a → First (list_rows top L ns) Passed a
    at_record a x =
        from_record a
        (subst (λ (es : List (Edge ℤ)). First (record_rows top L k es ++ []) Passed a) (sym (drop-cons (edges_of ns) k none (omega (arith, edges_length ns)))) x)

    pub range_answer : sound_edge top L (edge_at ns k) ≡ false → First (list_rows top L ns) Passed (out_of_range k)
    range_answer e = at_record (out_of_range k) (inl (ap (sound_edge top L) (edges_at ns k none more) ∙ e, refl))

    pub equal_answer : sound_edge top L (edge_at ns k) ≡ true → flat (edge_at ns k) ≡ true → First (list_rows top L ns) Passed (from_equals_to k)
    equal_answer s e =
        at_record (from_equals_to k)
        (inr (not_given (out_of_range k) (λ u. true≢false (sym (ap (sound_edge top L) (edges_at ns k none more) ∙ s) ∙ u)), inl (ap flat (edges_at ns k none more) ∙ e, refl)))

  pub none_answer : length ns / 4 ≤ k → First (list_rows top L ns) Passed (accepted 0)
  none_answer all =
      let k_is : length (edges_of ns) ≡ k = omega (arith, edges_length ns, F.within) in
      from_record (accepted 0)
      (subst (λ (es : List (Edge ℤ)). First (record_rows top L k es ++ []) Passed (accepted 0)) (sym (drop-length (edges_of ns)) ∙ ap (λ n. drop n (edges_of ns)) k_is) refl)

-- ---- what the answers say

module _ (L : ℕ) (ns : List ℤ) (r : Result (Unit {0}) Refusal) (J : First (list_rows 7 L ns) Passed (verdict r)) where
  pub refused_answer : (s : Refusal) → r ≡ Err s → First (edge_rows 7 L ns) Passed (answer_of s)
  refused_answer s e = first_stops (list_rows 7 L ns) (closing ns) Passed Passed (answer_of s) (rw e at J) (refused (answer_of s) 0 (refusal_number s))

  module _ (is : r ≡ Ok tt) where
    passed : First (list_rows 7 L ns) Passed (accepted 0)
    passed = rw is at J

    records_good : (k : ℕ) (es : List (Edge ℤ)) → First (record_rows 7 L k es) Passed (accepted 0) → All (Good 7 L) es
    records_good k [] x = tt
    records_good k (e ∷ es) (inl x) = absurd (not_accepted (out_of_range k) 0 _ (λ z. omega arith) x)
    records_good k (e ∷ es) (inr (_, inl x)) = absurd (not_accepted (from_equals_to k) 0 _ (λ z. omega arith) x)
    records_good k (e ∷ es) (inr (a, inr (b, x))) =
        (record { sound = is_other (sound_edge 7 L e) false (λ h. a (out_of_range k) (h, refl)); ends = is_other (flat e) true (λ h. b (from_equals_to k) (h, refl)) }, records_good (suc k) es x)

    record Clear : Type 0 where
      fours : length ns % 4 ≡ 0
      few : length ns / 4 ≤ 4096
      each : All (Good 7 L) (edges_of ns)

    clear : First (list_rows 7 L ns) Passed (accepted 0) → Clear
    clear (inl x) = absurd (not_accepted not_fours 0 _ (λ z. omega arith) x)
    clear (inr (_, inl x)) = absurd (not_accepted too_many_edges 0 _ (λ z. omega arith) x)
    clear (inr (a, inr (b, x))) = record { fours = by_four (ℕ_discrete (length ns % 4) 0); few = by_few (dec_lt 4096 (length ns / 4)); each = records_good 0 (edges_of ns) x }
      where
        by_four : Dec (length ns % 4 ≡ 0) → length ns % 4 ≡ 0
        by_four (yes p) = p
        by_four (no p) = absurd (a not_fours (p, refl))

        by_few : Dec (4096 < length ns / 4) → length ns / 4 ≤ 4096
        by_few (yes p) = absurd (b too_many_edges (p, refl))
        by_few (no p) = omega arith

    pub fine_list : SoundList 7 L ns
    fine_list = let C = clear passed in record { fours = C.fours; few = C.few; sound = all_map _ _ (edges_of ns) (λ e G. G.sound) C.each }

    pub fine_sloping : All (λ e. flat e ≡ false) (edges_of ns)
    fine_sloping = all_map _ _ (edges_of ns) (λ e G. G.ends) (clear passed).each

    pub open_answer : (Closed (edges_of ns) → ⊥) → First (edge_rows 7 L ns) Passed not_closed
    open_answer h = edges_open 7 L ns fine_list fine_sloping h

    pub fine_answer : Closed (edges_of ns) → First (edge_rows 7 L ns) Passed (accepted 0)
    fine_answer h = edges_pass 7 L ns (record { list = fine_list; sloping = fine_sloping; closed = h })

-- ---- one answer

singles_front : (rows more : List (Row Answer)) → Singles (rows ++ more) → Singles rows
singles_front [] more s = tt
singles_front (row ∷ rows) more s = (s.0, singles_front rows more s.1)

pub one_judged : (top L : ℕ) (ns : List ℤ) (r s : Result (Unit {0}) Refusal) → First (list_rows top L ns) Passed (verdict r) → First (list_rows top L ns) Passed (verdict s) → r ≡ s
one_judged top L ns r s x y =
    let single = singles_front (list_rows top L ns) (closing ns) (edges_single top L ns) in
    verdict_same (λ a b. refl) r s (one_answer (list_rows top L ns) Passed single (λ a b p q. p ∙ sym q) (verdict r) (verdict s) x y)
