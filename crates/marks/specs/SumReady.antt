-- Marked edges can be summed up. Assumes nothing.
--
--   sum_ready   where a layer's counts are not far from zero, `sum_up` has room
use Rattle.std.specs.Prelude.{◌≡◌, List, ℕ, suc, ◌+◌, ◌*◌, ◌<◌, ◌≤◌, length}
use Rattle.std.proofs.Common.{arith}
use Rattle.meaning.specs.Edges.{Edge, number}
use Rattle.strips.specs.Rows.{row_at}
use Rattle.marks.specs.Marks.{from_below, to_below, Marked, run_to, SumOk}
use Rattle.marks.specs.MarkLaws.{most_all, from_more, to_more, run_is}

module _ {n : ℕ} {es : List (Edge ℕ)} {d : List ℕ} (M : Marked n es d) (few : length es ≤ 4096) (l a b : ℕ) (hl : l < 8) (froms : number (from_below l a) es ≡ 0) (tos : number (to_below l a) es ≡ 0) (order : a ≤ b) (top : b < n) where
  run_near : (k : ℕ) → a + k ≤ n → (4096 ≤ run_to n d l a k) × (run_to n d l a k ≤ 12288)
  run_near k h =
      let i = run_is M few l a hl froms tos k h in
      let f = most_all (from_below l (a + k)) es in
      let t = most_all (to_below l (a + k)) es in
      (omega arith, omega arith)

  mark_near : (k : ℕ) → a + k < b → (8192 ≤ run_to n d l a k + row_at n d l (a + k)) × (run_to n d l a k + row_at n d l (a + k) < 65536)
  mark_near k h =
      let i = run_is M few l a hl froms tos k (omega arith) in
      let m = M.marks l (a + k) hl (omega arith) in
      let f = from_more l (a + k) es in
      let f' = most_all (from_below l (suc (a + k))) es in
      let t = to_more l (a + k) es in
      let t' = most_all (to_below l (suc (a + k))) es in
      (omega arith, omega arith)

  pub sum_ready : {c m : List ℕ} → length c ≡ 8 * n → length m ≡ n → n ≤ 8192 → ((r : ℕ) → r < n → (4096 ≤ row_at n c l r) × (row_at n c l r ≤ 12288)) → SumOk n l a b c m d
  sum_ready long long_m small near = record {
    long = long;
    covers = long_m;
    marks = M.long;
    few = small;
    layer = hl;
    order = order;
    top = top;
    run_enough = λ k h. (mark_near k h).0;
    run_fits = λ k h. (mark_near k h).1;
    enough = λ k h. omega (arith, (near (a + k) (omega arith)).0, (run_near (suc k) (omega arith)).0);
    fits = λ k h. omega (arith, (near (a + k) (omega arith)).1, (run_near (suc k) (omega arith)).1);
  }
