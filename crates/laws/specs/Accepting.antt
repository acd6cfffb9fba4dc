-- Refusals 1 to 5: what they say of an edge list, row by row. Assumes nothing.
--
--   Passed                no refusal applies
--   Good top L e          neither row of a record applies to e
--   past_good             the first i records are good: what follows their rows decides
--   records_pass          so with all records
--   closing ns            the row of refusal 5
--   past_two              refusals 1 and 2 do not apply: what follows decides
--   edges_open            a list to which 1 to 4 do not apply is refused by 5, if it is not closed
--   AcceptedEdges top L ns   none of the refusals 1 to 5 applies to the numbers ns
--   edges_pass            such a list passes
--   edges_accepted, edges_passed   and a list that passes is such: in front of further rows, and alone
--   refused, not_accepted, edges_silent   no refusal is an acceptance
--   edges_single          ONE ANSWER: each row says one
use Rattle.std.specs.Prelude.{◌≡◌, refl, true, false, ◌&&◌, List, [], ◌∷◌, ◌++◌, ℕ, zero, suc, ◌+◌, ◌/◌, ◌%◌, ◌≤◌, ◌<◌, ℤ, length, get_or, drop}
use Rattle.std.proofs.Common.{sym, ap, ◌∙◌, subst, true≢false, inl, inr, append_assoc, append-nil, arith, add-zero}
use Rattle.std.proofs.Math.Decide.{dec_lt, ℕ_discrete}
use Rattle.std.proofs.Math.Seq.{drop-length}
use Rattle.meaning.specs.Answers.{Answer, accepted, Row, given, First, not_fours, too_many_edges, out_of_range, from_equals_to, not_closed}
use Rattle.meaning.specs.Edges.{Edge, edges_of, west, east, on, number, Closed, sound_edge, flat, record_rows, edge_rows}
use Rattle.basic_laws.specs.Lists.{All, all_at}
use Rattle.basic_laws.specs.Tables.{Singles, single_given, not_given, Silent, silent_append, singles_append}
use Rattle.basic_laws.specs.Fours.{none}
use Rattle.basic_laws.specs.Sound.{Sound, SoundList}
use Rattle.basic_laws.specs.Tests.{is_other}

abbrev pub Passed : Row Answer
Passed a = a ≡ accepted 0

-- ---- rows that do not apply

pub record Good (top L : ℕ) (e : Edge ℤ) : Type 0 where
  pub sound : sound_edge top L e ≡ true
  pub ends : flat e ≡ false

module _ (top L : ℕ) (more : List (Row Answer)) (Last : Row Answer) (a : Answer) where
  pub past_good : (es : List (Edge ℤ)) (k i : ℕ) → ((j : ℕ) → j < i → Good top L (get_or es j none)) → i ≤ length es
      → First (record_rows top L (k + i) (drop i es) ++ more) Last a → First (record_rows top L k es ++ more) Last a
  past_good es k zero good h x = subst (λ (n : ℕ). First (record_rows top L n es ++ more) Last a) (add-zero k) x
  past_good [] k (suc i) good h x = absurd (omega arith)
  past_good (e ∷ es) k (suc i) good h x =
      let G = good 0 (omega arith) in
      inr (
        not_given (out_of_range k) (λ u. true≢false (sym G.sound ∙ u)),
        inr (
          not_given (from_equals_to k) (λ u. true≢false (sym u ∙ G.ends)),
          past_good es (suc k) i (λ j l. good (suc j) (omega arith)) (omega arith) (subst (λ (n : ℕ). First (record_rows top L n (drop i es) ++ more) Last a) (next k i) x),
        ),
      )
    where
      next : (k i : ℕ) → k + suc i ≡ suc k + i
      next k i = omega arith

  pub records_pass : (es : List (Edge ℤ)) (k : ℕ) → Sound top L es → All (λ e. flat e ≡ false) es → First more Last a → First (record_rows top L k es ++ more) Last a
  records_pass es k s f x =
      past_good es k (length es) (λ j h. record { sound = all_at (λ e. sound_edge top L e ≡ true) es j none s h; ends = all_at (λ e. flat e ≡ false) es j none f h }) (omega arith)
      (subst (λ (ds : List (Edge ℤ)). First (record_rows top L (k + length es) ds ++ more) Last a) (sym (drop-length es)) x)

-- ---- a list that passes

pub record AcceptedEdges (top L : ℕ) (ns : List ℤ) : Type 0 where
  pub list : SoundList top L ns
  pub sloping : All (λ e. flat e ≡ false) (edges_of ns)
  pub closed : Closed (edges_of ns)

abbrev pub closing : List ℤ → List (Row Answer)
closing ns = given (Closed (edges_of ns) → ⊥) not_closed ∷ []

module _ (top L : ℕ) (ns : List ℤ) where
  pub past_two : length ns % 4 ≡ 0 → length ns / 4 ≤ 4096 → (a : Answer) → First (record_rows top L 0 (edges_of ns) ++ closing ns) Passed a → First (edge_rows top L ns) Passed a
  past_two fours few a x = inr (not_given not_fours (λ h. h fours), inr (not_given too_many_edges (λ h. omega arith), x))

  past_four : SoundList top L ns → All (λ e. flat e ≡ false) (edges_of ns) → (a : Answer) → First (closing ns) Passed a → First (edge_rows top L ns) Passed a
  past_four s f a x = past_two s.fours s.few a (records_pass top L (closing ns) Passed a (edges_of ns) 0 s.sound f x)

  pub edges_open : SoundList top L ns → All (λ e. flat e ≡ false) (edges_of ns) → (Closed (edges_of ns) → ⊥) → First (edge_rows top L ns) Passed not_closed
  edges_open s f h = past_four s f not_closed (inl (h, refl))

  pub edges_pass : AcceptedEdges top L ns → First (edge_rows top L ns) Passed (accepted 0)
  edges_pass A = past_four A.list A.sloping (accepted 0) (inr (not_given not_closed (λ n. n A.closed), refl))

-- ---- no refusal is an acceptance

pub refused : (a : Answer) (v : ℕ) → (a.number ≡ 0 → ⊥) → a ≡ accepted v → ⊥
refused a v n e = n (ap (λ (r : Answer). r.number) e)

pub not_accepted : (a : Answer) (v : ℕ) (fact : Type 0) → (a.number ≡ 0 → ⊥) → given fact a (accepted v) → ⊥
not_accepted a v fact n x = refused a v n (sym x.1)

records_silent : (top L k : ℕ) (es : List (Edge ℤ)) (v : ℕ) → Silent (accepted v) (record_rows top L k es)
records_silent top L k [] v = tt
records_silent top L k (e ∷ es) v = (not_accepted (out_of_range k) v _ (λ z. omega arith), (not_accepted (from_equals_to k) v _ (λ z. omega arith), records_silent top L (suc k) es v))

pub edges_silent : (top L : ℕ) (ns : List ℤ) (v : ℕ) → Silent (accepted v) (edge_rows top L ns)
edges_silent top L ns v = (
  not_accepted not_fours v _ (λ z. omega arith),
  (
    not_accepted too_many_edges v _ (λ z. omega arith),
    silent_append (accepted v) (record_rows top L 0 (edges_of ns)) _ (records_silent top L 0 (edges_of ns) v) (not_accepted not_closed v _ (λ z. omega arith), tt),
  ),
)

-- ---- what passing says

records_sound : (top L k : ℕ) (es : List (Edge ℤ)) (more : List (Row Answer)) (Last : Row Answer) (v : ℕ) → First (record_rows top L k es ++ more) Last (accepted v)
    → Sound top L es × All (λ e. flat e ≡ false) es × First more Last (accepted v)
records_sound top L k [] more Last v x = (tt, tt, x)
records_sound top L k (e ∷ es) more Last v (inl x) = absurd (not_accepted (out_of_range k) v _ (λ z. omega arith) x)
records_sound top L k (e ∷ es) more Last v (inr (_, inl x)) = absurd (not_accepted (from_equals_to k) v _ (λ z. omega arith) x)
records_sound top L k (e ∷ es) more Last v (inr (a, inr (b, x))) =
    let r = records_sound top L (suc k) es more Last v x in
    ((is_other (sound_edge top L e) false (λ h. a (out_of_range k) (h, refl)), r.0), (is_other (flat e) true (λ h. b (from_equals_to k) (h, refl)), r.1), r.2)

-- equations of numbers are decided, so a list that is not open is closed
stable : (es : List (Edge ℤ)) → ((Closed es → ⊥) → ⊥) → Closed es
unfolding Closed
stable es h c i = go (ℕ_discrete (number (λ e. on c e && west i e) es) (number (λ e. on c e && east i e) es))
  where
    go : Dec (number (λ e. on c e && west i e) es ≡ number (λ e. on c e && east i e) es) → number (λ e. on c e && west i e) es ≡ number (λ e. on c e && east i e) es
    go (yes p) = p
    go (no p) = absurd (h (λ k. p (k c i)))

pub edges_accepted : (top L : ℕ) (ns : List ℤ) (more : List (Row Answer)) (Last : Row Answer) (v : ℕ) → First (edge_rows top L ns ++ more) Last (accepted v) → AcceptedEdges top L ns × First more Last (accepted v)
edges_accepted top L ns more Last v (inl x) = absurd (not_accepted not_fours v _ (λ z. omega arith) x)
edges_accepted top L ns more Last v (inr (_, inl x)) = absurd (not_accepted too_many_edges v _ (λ z. omega arith) x)
edges_accepted top L ns more Last v (inr (a, inr (b, x))) =
    go (records_sound top L 0 (edges_of ns) (given (Closed (edges_of ns) → ⊥) not_closed ∷ more) Last v (subst (λ (rows : List (Row Answer)). First rows Last (accepted v)) (append_assoc (record_rows top L 0 (edges_of ns)) (closing ns) more) x))
  where
    fours : Dec (length ns % 4 ≡ 0) → length ns % 4 ≡ 0
    fours (yes p) = p
    fours (no p) = absurd (a not_fours (p, refl))

    few : Dec (4096 < length ns / 4) → length ns / 4 ≤ 4096
    few (yes p) = absurd (b too_many_edges (p, refl))
    few (no p) = omega arith

    go : Sound top L (edges_of ns) × All (λ e. flat e ≡ false) (edges_of ns) × First (given (Closed (edges_of ns) → ⊥) not_closed ∷ more) Last (accepted v) → AcceptedEdges top L ns × First more Last (accepted v)
    go (s, f, inl y) = absurd (not_accepted not_closed v _ (λ z. omega arith) y)
    go (s, f, inr (c, y)) = (
      record {
        list = record { fours = fours (ℕ_discrete (length ns % 4) 0); few = few (dec_lt 4096 (length ns / 4)); sound = s };
        sloping = f;
        closed = stable (edges_of ns) (λ h. c not_closed (h, refl));
      },
      y,
    )

pub edges_passed : (top L : ℕ) (ns : List ℤ) → First (edge_rows top L ns) Passed (accepted 0) → AcceptedEdges top L ns
edges_passed top L ns x = (edges_accepted top L ns [] Passed 0 (subst (λ (rows : List (Row Answer)). First rows Passed (accepted 0)) (sym (append-nil (edge_rows top L ns))) x)).0

-- ---- one answer

records_single : (top L k : ℕ) (es : List (Edge ℤ)) → Singles (record_rows top L k es)
records_single top L k [] = tt
records_single top L k (e ∷ es) = (single_given _ (out_of_range k), (single_given _ (from_equals_to k), records_single top L (suc k) es))

pub edges_single : (top L : ℕ) (ns : List ℤ) → Singles (edge_rows top L ns)
edges_single top L ns =
    (single_given _ not_fours, (single_given _ too_many_edges, singles_append (record_rows top L 0 (edges_of ns)) _ (records_single top L 0 (edges_of ns)) (single_given _ not_closed, tt)))
