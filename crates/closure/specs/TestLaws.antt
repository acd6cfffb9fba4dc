-- The walks of `closure`. Assumes nothing.
--
--   by_long, by_at, by_more      the edges of layers and ends, one after the other
--   past_even                    at ranks that no end has, nothing begins or ends
--   MarkedTo, mark_start, mark_room, mark_more, mark_end   the loop of `mark_all`: the first k edges are marked
--   layer_more                   one layer more
--   layer_rows                   where the rows of a layer stand
--   layers_told, NoneUneven, layers_even   what `all` tells of the layers
--   first_open, none_open        what `find` tells of the ranks
--   row_even, even_row, rows_answer, rows_open, found_tested   what rows of marks say of the edges
--   test_up                      ranks below nx are below n
use Rattle.std.specs.Prelude.{◌≡◌, refl, Bool, true, false, List, [], ◌∷◌, ℕ, zero, suc, ◌+◌, ◌*◌, ◌<◌, ◌≤◌, eqb, length, get_or, take, drop, ◌-◌, Result, Ok, Err}
use Rattle.std.proofs.Common.{sym, ap, ap₂, ◌∙◌, subst, true≢false, ⊎_elim, add-one, eq-or-lt_of_le, zero-add, arith, take-suc, take_all, length-take-le, ne_eqb}
use Rattle.std.proofs.lemmas.Bool.{false≢true}
use Rattle.std.proofs.lemmas.List.FromFn.{get_or-range_with_len}
use Rattle.std.specs.Bool.{MatchBool}
use Rattle.std.specs.List.{range_with_len, AllWithin, HoldsAt, count_by}
use Rattle.std.proofs.Math.Decide.{dec_lt}
use Rattle.meaning.specs.Numbers.{bit}
use Rattle.meaning.specs.Edges.{Edge, edge, number}
use Rattle.basic_laws.specs.Lists.{All, all_map, number_none, number_append}
use Rattle.basic_laws.specs.Tests.{and_off}
use Rattle.strips.specs.Rows.{row_at, layer_fits}
use Rattle.marks.specs.Fresh.{fresh_between}
use Rattle.marks.specs.Marks.{from_at, to_at, Marked, marked_by, not_fresh}
use Rattle.marks.specs.MarkLaws.{most_all}
use Rattle.marks.specs.MarkMore.{marked_more}
use Rattle.lifting.specs.Columns.{twice, twice_one}
use Rattle.closure.specs.declared.Open.{Open}
use Rattle.closure.specs.Testing.{edges_by, EvenAt, LeastUneven, TestOk, EvenFrom, RowsOk, EvenRows, UnevenRow, EvenTold, FoundOpen, Found, Tested}

abbrev none : Edge ℕ
none = edge 0 0 0 0

-- ---- the edges

pub by_long : (layers ends : List ℕ) → length ends ≡ length layers + length layers → length (edges_by layers ends) ≡ length layers
unfolding edges_by
by_long [] ends e = refl
by_long (l ∷ ls) [] e = absurd (omega arith)
by_long (l ∷ ls) (f ∷ []) e = absurd (omega arith)
by_long (l ∷ ls) (f ∷ t ∷ ends) e = ap suc (by_long ls ends (omega arith))

pub by_at : (layers ends : List ℕ) (k : ℕ) → length ends ≡ length layers + length layers → k < length layers → get_or (edges_by layers ends) k none ≡ edge (get_or layers k 0) 0 (get_or ends (k + k) 0) (get_or ends (k + k + 1) 0)
unfolding edges_by
by_at [] ends k e h = absurd (omega arith)
by_at (l ∷ ls) [] k e h = absurd (omega arith)
by_at (l ∷ ls) (f ∷ []) k e h = absurd (omega arith)
by_at (l ∷ ls) (f ∷ t ∷ ends) zero e h = refl
by_at (l ∷ ls) (f ∷ t ∷ ends) (suc k) e h =
    by_at ls ends k (omega arith) (omega arith)
    ∙ ap₂ (λ (a b : ℕ). edge (get_or ls k 0) 0 (get_or (f ∷ t ∷ ends) a 0) (get_or (f ∷ t ∷ ends) b 0)) (twice k) (twice_one k)

pub by_more : (es : List (Edge ℕ)) (k : ℕ) → k < length es → (p : Edge ℕ → Bool) → number p (take (k + 1) es) ≡ number p (take k es) + bit (p (get_or es k none))
unfolding number
by_more es k h p = ap (λ n. number p (take n es)) (add-one k) ∙ ap (number p) (take-suc es k none h) ∙ number_append p (take k es) (get_or es k none ∷ []) ∙ omega arith

-- an end that no edge has
pub past_none : (layers ends : List ℕ) (nx l x : ℕ) → ((p : ℕ) → p < length ends → get_or ends p 0 < nx) → nx ≤ x → All (λ e. (from_at l x e ≡ false) × (to_at l x e ≡ false)) (edges_by layers ends)
unfolding edges_by from_at to_at
past_none [] ends nx l x low h = tt
past_none (k ∷ ls) [] nx l x low h = tt
past_none (k ∷ ls) (f ∷ []) nx l x low h = tt
past_none (k ∷ ls) (f ∷ t ∷ ends) nx l x low h =
    let a : eqb f x ≡ false = ne_eqb f x (λ e. omega (arith, low 0 (omega arith))) in
    let b : eqb t x ≡ false = ne_eqb t x (λ e. omega (arith, low 1 (omega arith))) in
    ((rw a (and_off (eqb k l)), rw b (and_off (eqb k l))), past_none ls ends nx l x (λ p u. low (suc (suc p)) (omega arith)) h)

pub past_even : (layers ends : List ℕ) (nx l x : ℕ) → ((p : ℕ) → p < length ends → get_or ends p 0 < nx) → nx ≤ x → EvenAt (edges_by layers ends) l x
past_even layers ends nx l x low h =
    let A = past_none layers ends nx l x low h in
    number_none (from_at l x) (edges_by layers ends) (all_map _ _ (edges_by layers ends) (λ e u. u.0) A)
    ∙ sym (number_none (to_at l x) (edges_by layers ends) (all_map _ _ (edges_by layers ends) (λ e u. u.1) A))

-- ---- the loop of `mark_all`

pub record MarkedTo (layers ends : List ℕ) (n : ℕ) (c : List ℕ) (k : ℕ) : Type 0 where
  pub within : k ≤ length layers
  pub marked : Marked n (take k (edges_by layers ends)) c

pub test_up : {layers ends : List ℕ} {n nx : ℕ} {c : List ℕ} → TestOk layers ends n nx c → TestOk layers ends n n c
test_up T = record {
  two = T.two;
  few = T.few;
  eight = T.eight;
  ranks = λ p h. omega (arith, T.ranks p h, T.within);
  within = omega arith;
  rows_few = T.rows_few;
  long = T.long;
  fresh = T.fresh;
}

module _ {layers ends : List ℕ} {n : ℕ} {c₀ : List ℕ} (T : TestOk layers ends n n c₀) where
  abbrev es : List (Edge ℕ)
  es = edges_by layers ends

  pub mark_start : MarkedTo layers ends n c₀ 0
  unfolding number
  mark_start = record {
    within = omega arith;
    marked = record {
      long = T.long;
      marks = λ l r hl hr. omega (arith, T.fresh (l * n + r) (omega (arith, T.long, layer_fits n l hl)));
    };
  }

  module _ {c : List ℕ} {k : ℕ} (M : MarkedTo layers ends n c k) (more : k < length layers) (l f t : ℕ) (l_is : l ≡ get_or layers k 0) (f_is : f ≡ get_or ends (k + k) 0) (t_is : t ≡ get_or ends (k + k + 1) 0) where
    layer_low : l < 8
    layer_low = omega (arith, T.eight k more)

    from_low : f < n
    from_low = omega (arith, T.ranks (k + k) (omega (arith, T.two)))

    to_low : t < n
    to_low = omega (arith, T.ranks (k + k + 1) (omega (arith, T.two)))

    few_edges : length (take k es) ≤ 4096
    few_edges = omega (arith, length-take-le k es (omega (arith, M.within, by_long layers ends T.two)), T.few, T.two)

    room_from : 0 < row_at n c l f
    room_from = omega (arith, M.marked.marks l f layer_low from_low, most_all (from_at l f) (take k es), few_edges)

    pub mark_room : (length c ≡ 8 * n) × (n ≤ 8192) × (l < 8) × (f < n) × (t < n) × (0 < get_or c (l * n + f) 0) × (get_or c (l * n + t) 0 < 65535)
    mark_room = (
      M.marked.long,
      T.rows_few,
      layer_low,
      from_low,
      to_low,
      room_from,
      omega (arith, M.marked.marks l t layer_low to_low, most_all (to_at l t) (take k es), few_edges),
    )

    edge_is : get_or es k none ≡ edge l 0 f t
    edge_is = by_at layers ends k T.two more ∙ rw (l_is, f_is, t_is)

    pub mark_more : MarkedTo layers ends n (marked_by n l f t c) (k + 1)
    mark_more = record {
      within = omega arith;
      marked = marked_more M.marked (take (k + 1) es) l 0 f t layer_low from_low to_low room_from (λ p. by_more es k (omega (arith, by_long layers ends T.two)) p ∙ ap (λ e. number p (take k es) + bit (p e)) edge_is);
    }

  pub mark_end : {c : List ℕ} {k : ℕ} → MarkedTo layers ends n c k → length layers ≤ k → Marked n (edges_by layers ends) c
  mark_end {c} {k} M h = subst (λ l. Marked n l c) (take_all k es (omega (arith, by_long layers ends T.two))) M.marked

-- ---- one layer more

pub layer_rows : {n nx : ℕ} {c : List ℕ} → RowsOk n nx c → (l : ℕ) → l < 8 → l * n + nx ≤ length c
layer_rows {n} {nx} {c} R l h = omega (arith, R.long, R.within, layer_fits n l h)

-- of the layers below l, all marks below nx are zero
abbrev pub EvenTo : ℕ → ℕ → List ℕ → ℕ → Type 0
EvenTo n nx c l = (j x : ℕ) → j < l → x < nx → row_at n c j x ≡ 8192

pub layer_more : (n nx : ℕ) (c : List ℕ) (l : ℕ) → EvenTo n nx c l → EvenFrom c (l * n) (l * n + nx) → EvenTo n nx c (l + 1)
layer_more n nx c l E F j x h u = ⊎_elim (λ e. rw e (F (l * n + x) (omega arith) (omega arith))) (λ g. E j x g u) (eq-or-lt_of_le {n = j} {m = l} (omega arith))

pub even_more : (c : List ℕ) (a i x d : ℕ) → (x ≡ 0 → EvenFrom c a i) → (d ≡ 0 → get_or c i 0 ≡ 8192) → x + d ≡ 0 → EvenFrom c a (i + 1)
even_more c a i x d E h z j g l = ⊎_elim (λ e. rw e (h (omega arith))) (λ u. E (omega arith) j g u) (eq-or-lt_of_le {n = j} {m = i} (omega arith))

pub layer_small : {n nx : ℕ} {c : List ℕ} → RowsOk n nx c → (l : ℕ) → l < 8 → l * n + n ≤ 65536
layer_small {n} {nx} {c} R l h = omega (arith, R.rows_few, layer_fits n l h)

pub told_more : (n : ℕ) (c : List ℕ) (x l : ℕ) → ((j : ℕ) → j < l → row_at n c j x ≡ 8192) → row_at n c l x ≡ 8192 → (j : ℕ) → j < l + 1 → row_at n c j x ≡ 8192
told_more n c x l E e j h = ⊎_elim (λ q. rw q e) (λ g. E j g) (eq-or-lt_of_le {n = j} {m = l} (omega arith))

pub told_yes : (n : ℕ) (c : List ℕ) (x : ℕ) (r : Bool) → EvenTold n c x r → r ≡ true → (l : ℕ) → l < 8 → row_at n c l x ≡ 8192
told_yes n c x true E e = E
told_yes n c x false E e = absurd (false≢true e)

pub told_no : (n : ℕ) (c : List ℕ) (x : ℕ) (r : Bool) → EvenTold n c x r → r ≡ false → UnevenRow n c x
told_no n c x true E e = absurd (true≢false e)
told_no n c x false E e = E

pub rows_more : (n : ℕ) (c : List ℕ) (x : ℕ) → EvenRows n x c → ((l : ℕ) → l < 8 → row_at n c l x ≡ 8192) → EvenRows n (x + 1) c
rows_more n c x E F l y hl h = ⊎_elim (λ e. rw e (F l hl)) (λ g. E l y hl g) (eq-or-lt_of_le {n = y} {m = x} (omega arith))

-- ---- what is told of eight layers, and of ranks

layers_each : (P : ℕ → Type 0) → AllWithin P (range_with_len 0 8) 0 8 → (l : ℕ) → l < 8 → P l
layers_each P A l h = subst P (get_or-range_with_len 0 8 l 0 h ∙ zero-add l) (A l 0 (omega arith) h)

layers_some : (P : ℕ → Type 0) (k : ℕ) → k < 8 → HoldsAt P (range_with_len 0 8) k → P k
layers_some P k h H = subst P (get_or-range_with_len 0 8 k 0 h ∙ zero-add k) (H 0)

pub layers_told : (n : ℕ) (c : List ℕ) (x : ℕ) (r : Bool) → MatchBool r (AllWithin (λ l. row_at n c l x ≡ 8192) (range_with_len 0 8) 0 8) ((k : ℕ) × (k < 8) × HoldsAt (λ l. row_at n c l x ≡ 8192 → ⊥) (range_with_len 0 8) k) → EvenTold n c x r
layers_told n c x true A = layers_each (λ l. row_at n c l x ≡ 8192) A
layers_told n c x false S = record { layer = S.0; eight = S.1; marked = layers_some (λ l. row_at n c l x ≡ 8192 → ⊥) S.0 S.1 S.2 }

-- none of the marks of layer l at the ranks below nx is not zero, as `uneven` counts them
abbrev pub NoneUneven : ℕ → ℕ → List ℕ → ℕ → Type 0
NoneUneven n nx c l = count_by not_fresh (take (l * n + nx - l * n) (drop (l * n) c)) ≡ 0

pub layers_even : {n nx : ℕ} {c : List ℕ} → RowsOk n nx c → (r : Bool) → MatchBool r (AllWithin (NoneUneven n nx c) (range_with_len 0 8) 0 8) ((k : ℕ) × (k < 8) × HoldsAt (λ _. Unit {0}) (range_with_len 0 8) k) → r ≡ true → EvenRows n nx c
layers_even {n} {nx} {c} R true A e = λ l x h g.
    fresh_between c (l * n) (l * n + nx) (layers_each (NoneUneven n nx c) A l h) (l * n + x) (omega arith) (omega arith) (layer_rows R l h)
layers_even R false S e = absurd (false≢true e)

pub first_open : (n : ℕ) {nx x : ℕ} (c : List ℕ) → (0 ≤ x) × (x < nx) × UnevenRow n c x × ((k : ℕ) → 0 ≤ k → k < x → (l : ℕ) → l < 8 → row_at n c l k ≡ 8192) → FoundOpen n nx c x
first_open n c F = record { low = F.1; row = F.2; before = λ l y hl hy. F.3 y (omega arith) hy l hl }

pub none_open : (n : ℕ) {nx : ℕ} (c : List ℕ) → ((k : ℕ) → 0 ≤ k → k < nx → (l : ℕ) → l < 8 → row_at n c l k ≡ 8192) → EvenRows n nx c
none_open n c F l y hl hy = F y (omega arith) hy l hl

-- ---- what rows of marks say of the edges

module _ {n : ℕ} {es : List (Edge ℕ)} {c : List ℕ} (M : Marked n es c) where
  pub row_even : (l x : ℕ) → l < 8 → x < n → row_at n c l x ≡ 8192 → EvenAt es l x
  row_even l x hl hx e = omega (arith, M.marks l x hl hx)

  pub even_row : (l x : ℕ) → l < 8 → x < n → EvenAt es l x → row_at n c l x ≡ 8192
  even_row l x hl hx e = omega (arith, M.marks l x hl hx)

module _ {layers ends : List ℕ} {n nx : ℕ} {c₀ c : List ℕ} (T : TestOk layers ends n nx c₀) (M : Marked n (edges_by layers ends) c) where
  pub rows_answer : EvenRows n nx c → (l x : ℕ) → l < 8 → EvenAt (edges_by layers ends) l x
  rows_answer E l x hl = go (dec_lt x nx)
    where
      go : Dec (x < nx) → EvenAt (edges_by layers ends) l x
      go (yes h) = row_even M l x hl (omega (arith, T.within)) (E l x hl h)
      go (no h) = past_even layers ends nx l x T.ranks (omega arith)

  pub rows_open : {x : ℕ} → FoundOpen n nx c x → LeastUneven (edges_by layers ends) x
  rows_open {x} F = record {
    layer = F.row.layer;
    eight = F.row.eight;
    uneven = λ e. F.row.marked (even_row M F.row.layer x F.row.eight (omega (arith, F.low, T.within)) e);
    before = λ l y hl hy. row_even M l y hl (omega (arith, F.low, T.within)) (F.before l y hl hy);
  }

  pub found_tested : (r : Result (Unit {0}) Open) → Found n nx c r → Tested n layers ends c r
  found_tested (Ok _) E = record { marked = M; answer = rows_answer E }
  found_tested (Err least) F = record { marked = M; answer = rows_open F }
