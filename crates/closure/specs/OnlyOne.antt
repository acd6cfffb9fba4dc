-- One answer. Assumes nothing.
--
--   one_marked     marks of the same edges are equal
--   marked_even    marks of edges that are closed by ends are fresh
--   one_tested     ANSWERS THAT MEET THE CONTRACT OF `test` ARE EQUAL, and so are the marks
use Rattle.std.specs.Prelude.{◌≡◌, refl, List, ℕ, zero, suc, ◌+◌, ◌*◌, ◌/◌, ◌%◌, ◌<◌, length, get_or, Result, Ok, Err}
use Rattle.std.proofs.Common.{sym, ap, ◌∙◌, div-add-mod', mod-lt, div-lt_iff_lt-mul, arith, ext_get_or}
use Rattle.std.proofs.Math.Decide.{dec_lt}
use Rattle.meaning.specs.Edges.{Edge}
use Rattle.strips.specs.Rows.{row_at, layer_fits}
use Rattle.marks.specs.Marks.{Marked}
use Rattle.closure.specs.declared.Open.{Open}
use Rattle.closure.specs.Testing.{edges_by, Answers, TestOk, Tested}
use Rattle.closure.specs.TestLaws.{even_row}

-- two lists of rows that agree row by row
pub rows_same : (n : ℕ) (c d : List ℕ) → length c ≡ 8 * n → length d ≡ 8 * n → ((l r : ℕ) → l < 8 → r < n → row_at n c l r ≡ row_at n d l r) → c ≡ d
rows_same zero c d hc hd same = ext_get_or 0 c d (omega arith) (λ p h. absurd (omega arith))
rows_same (suc m) c d hc hd same = ext_get_or 0 c d (hc ∙ sym hd) at
  where
    at : (p : ℕ) → p < length c → get_or c p 0 ≡ get_or d p 0
    at p h =
        let is : p / suc m * suc m + p % suc m ≡ p = div-add-mod' p (suc m) in
        let low : p % suc m < suc m = mod-lt p (omega arith) in
        let eight : p / suc m < 8 = (div-lt_iff_lt-mul {k = suc m} {x = p} {y = 8} (omega arith)).1 (omega (arith, hc)) in
        ap (λ q. get_or c q 0) (sym is) ∙ same (p / suc m) (p % suc m) eight low ∙ ap (λ q. get_or d q 0) is

pub one_marked : {n : ℕ} {es : List (Edge ℕ)} {c d : List ℕ} → Marked n es c → Marked n es d → c ≡ d
one_marked {n} {es} {c} {d} M N = rows_same n c d M.long N.long (λ l r hl hr. omega (arith, M.marks l r hl hr, N.marks l r hl hr))

pub marked_even : {n nx : ℕ} {layers ends c₀ c : List ℕ} → TestOk layers ends n nx c₀ → Tested n layers ends c (Ok tt) → c ≡ c₀
marked_even {n} {nx} {layers} {ends} {c₀} {c} T R =
    rows_same n c c₀ R.marked.long T.long
    (λ l r hl hr. even_row R.marked l r hl hr (R.answer l r hl) ∙ sym (T.fresh (l * n + r) (inside l r hl hr)))
  where
    inside : (l r : ℕ) → l < 8 → r < n → l * n + r < length c₀
    inside l r hl hr = omega (arith, T.long, layer_fits n l hl)

one_answer : (es : List (Edge ℕ)) (r s : Result (Unit {0}) Open) → Answers es r → Answers es s → r ≡ s
one_answer es (Ok _) (Ok _) a b = refl
one_answer es (Ok _) (Err least) a b = absurd (b.uneven (a b.layer least.rank b.eight))
one_answer es (Err least) (Ok _) a b = absurd (a.uneven (b a.layer least.rank a.eight))
one_answer es (Err least) (Err other) a b = ap (λ (x : ℕ). Err (record { rank = x })) (go (dec_lt least.rank other.rank) (dec_lt other.rank least.rank))
  where
    go : Dec (least.rank < other.rank) → Dec (other.rank < least.rank) → least.rank ≡ other.rank
    go (yes h) v = absurd (a.uneven (b.before a.layer least.rank a.eight h))
    go (no h) (yes g) = absurd (b.uneven (a.before b.layer other.rank b.eight g))
    go (no h) (no g) = omega arith

pub one_tested : {n : ℕ} {layers ends c d : List ℕ} (r s : Result (Unit {0}) Open) → Tested n layers ends c r → Tested n layers ends d s → (r ≡ s) × (c ≡ d)
one_tested {n} {layers} {ends} {c} {d} r s R S = (one_answer (edges_by layers ends) r s R.answer S.answer, one_marked R.marked S.marked)
