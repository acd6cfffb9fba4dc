-- Fresh marks. Assumes nothing.
--
--   Spot, spot     a place among the rows of k layers is of a layer and a strip
--   fresh_one      two lists of fresh marks are equal
--   fresh_by       marks are fresh where those of each layer are
--   marked_fresh   fresh marks have no edge
--   fresh_each     where none of a list of marks is not fresh, each is fresh
--   fresh_between  so with the marks from p on, below q
use Rattle.std.specs.Prelude.{◌≡◌, List, [], get_or, ◌≤◌, take, drop, ℕ, zero, suc, ◌+◌, ◌*◌, ◌-◌, ◌<◌, length}
use Rattle.std.proofs.Common.{sym, ◌∙◌, arith, ext_get_or, eq-eqb, ne_eqb, length-take, length-drop, take_all, add-one, below_more}
use Rattle.std.proofs.Math.Decide.{dec_lt, ℕ_discrete}
use Rattle.std.proofs.lemmas.List.{get_or-take, get_or-drop}
use Rattle.std.proofs.lemmas.List.Sums.{count_by_more_yes, count_by_more_no}
use Rattle.std.specs.List.{count_by}
use Rattle.meaning.specs.Edges.{number}
use Rattle.strips.specs.Rows.{row_at, layer_fits}
use Rattle.marks.specs.Marks.{Marked, FreshMarks, not_fresh}

pub record Spot (k n p : ℕ) : Type 0 where
  pub layer : ℕ
  pub strip : ℕ
  pub layer_less : layer < k
  pub strip_less : strip < n
  pub is : p ≡ layer * n + strip

pub spot : (k n p : ℕ) → p < k * n → Spot k n p
spot zero n p h = absurd (omega arith)
spot (suc k) n p h = go (dec_lt p (k * n)) (λ u. spot k n p u)
  where
    go : Dec (p < k * n) → (p < k * n → Spot k n p) → Spot (suc k) n p
    go (yes u) ih = let s = ih u in record { layer = s.layer; strip = s.strip; layer_less = omega (arith, s.layer_less); strip_less = s.strip_less; is = s.is }
    go (no u) ih = record { layer = k; strip = p - k * n; layer_less = omega arith; strip_less = omega arith; is = omega arith }

pub fresh_one : {n : ℕ} {d d' : List ℕ} → FreshMarks n d → FreshMarks n d' → d ≡ d'
fresh_one {n} {d} {d'} F F' = ext_get_or 0 d d' (F.long ∙ sym F'.long) (λ p h. F.fresh p (omega (arith, F.long)) ∙ sym (F'.fresh p (omega (arith, F.long))))

pub fresh_by : {n : ℕ} {d : List ℕ} → length d ≡ 8 * n → ((l r : ℕ) → l < 8 → r < n → row_at n d l r ≡ 8192) → FreshMarks n d
fresh_by {n} {d} long rows = record { long = long; fresh = λ p h. let s = spot 8 n p h in rw s.is (rows s.layer s.strip s.layer_less s.strip_less) }

pub marked_fresh : {n : ℕ} {d : List ℕ} → FreshMarks n d → Marked n [] d
unfolding number
marked_fresh {n} {d} F = record { long = F.long; marks = λ l r hl hr. omega (arith, F.fresh (l * n + r) (omega (arith, layer_fits n l hl))) }

fresh_below : (xs : List ℕ) (k : ℕ) → k ≤ length xs → count_by not_fresh (take k xs) ≡ 0 → (i : ℕ) → i < k → get_or xs i 0 ≡ 8192
fresh_below xs zero h e i g = absurd (omega arith)
fresh_below xs (suc k) h e i g = go (ℕ_discrete (get_or xs k 0) 8192) (fresh_below xs k (omega arith))
  where
    go : Dec (get_or xs k 0 ≡ 8192) → (count_by not_fresh (take k xs) ≡ 0 → (j : ℕ) → j < k → get_or xs j 0 ≡ 8192) → get_or xs i 0 ≡ 8192
    go (yes u) below =
        let n = count_by_more_no not_fresh xs k 0 h (rw (eq-eqb (get_or xs k 0) 8192 u)) in
        below_more (λ j. get_or xs j 0 ≡ 8192) k (below (sym n ∙ rw (← add-one k) at e)) u i (omega arith)
    go (no u) _ =
        let n = count_by_more_yes not_fresh xs k 0 h (rw (ne_eqb (get_or xs k 0) 8192 u)) in
        absurd (omega (arith, n, rw (← add-one k) at e))

pub fresh_each : (xs : List ℕ) → count_by not_fresh xs ≡ 0 → (i : ℕ) → i < length xs → get_or xs i 0 ≡ 8192
fresh_each xs e = fresh_below xs (length xs) (omega arith) (let h : length xs ≤ length xs = omega arith in rw take_all e)

pub fresh_between : (d : List ℕ) (p q : ℕ) → count_by not_fresh (take (q - p) (drop p d)) ≡ 0 → (i : ℕ) → p ≤ i → i < q → q ≤ length d → get_or d i 0 ≡ 8192
fresh_between d p q e i g h k =
    let z : p + (i - p) ≡ i = omega arith in
    let w : i - p < q - p = omega arith in
    let f = fresh_each (take (q - p) (drop p d)) e (i - p) (rw (length-take, length-drop) (omega arith)) in
    rw (get_or-take, get_or-drop, z) at f
