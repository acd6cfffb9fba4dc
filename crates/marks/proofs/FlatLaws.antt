-- What `uneven` shows of a layer: marks that are fresh change no strip. Assumes nothing.
--
--   run_flat         the sums of fresh marks are zero
--   layer_room       a layer's marks stand among all
--   layer_unmarked   so a layer whose marks are fresh is summed up as it stands
use mathlib.Core.Path.{◌≡◌, refl, sym, ap, ◌∙◌}
use mathlib.Core.List.{List}
use Prim.Native.Nat.{ℕ, zero, suc, ◌+◌, ◌*◌, ◌-◌, ◌<◌, ◌≤◌}
use native.Mathlib.Omega.{arith}
use lib.IntN.{pos, ◌-ℤ◌}
use lib.ListN.{length, get_or, take, drop}
use Rattle.meaning.specs.Numbers.{bit}
use Rattle.meaning.specs.Edges.{covers}
use Rattle.strips.specs.Rows.{row_at, layer_fits}
use Rattle.strips.specs.Cover.{turned_to}
use Rattle.strips.specs.CoverLaws.{turned_no}
use Rattle.strips.specs.Strips.{taken_over}
use Rattle.std.specs.List.{count_by}
use Rattle.marks.specs.Fresh.{fresh_between}
use Rattle.marks.specs.Marks.{not_fresh, run_to, Summed, covers_at, LayerOk}

-- ---- fresh marks

run_flat : (n : ℕ) (d : List ℕ) (l a k : ℕ) → ((j : ℕ) → j < k → row_at n d l (a + j) ≡ 8192) → run_to n d l a k ≡ 8192
unfolding run_to
run_flat n d l a zero h = refl
run_flat n d l a (suc k) h = omega (arith, run_flat n d l a k (λ j u. h j (omega arith)), h k (omega arith))

-- ---- a layer that has none

pub layer_room : {n l a b : ℕ} {c m d : List ℕ} → LayerOk n l a b c m d → (l * n + b + 1 ≤ length d) × (length d ≤ 65536) × (a ≤ b)
layer_room {n} {l} ok = (omega (arith, layer_fits n l ok.sum.layer, ok.sum.marks, ok.sum.top), omega (arith, ok.sum.marks, ok.sum.few), ok.sum.order)

module _ {n l a b : ℕ} {c m d : List ℕ} (ok : LayerOk n l a b c m d) (none : count_by not_fresh (take (l * n + b + 1 - (l * n + a)) (drop (l * n + a) d)) ≡ 0) where
  fresh : (j : ℕ) → a + j ≤ b → row_at n d l (a + j) ≡ 8192
  fresh j h =
      let z : l * n + a + j ≡ l * n + (a + j) = omega arith in
      rw z at (fresh_between d (l * n + a) (l * n + b + 1) none (l * n + a + j) (omega arith) (omega arith) (layer_room ok).0)

  run : (k : ℕ) → a + k ≤ b → run_to n d l a k ≡ 8192
  run k h = run_flat n d l a k (λ j u. fresh j (omega arith))

  cover : (r : ℕ) → r < n → turned_to (get_or m r 0) l (bit (covers_at n c r l)) ≡ get_or m r 0
  cover r h =
      let e = ok.covered.is r h in
      ap (λ (x : ℕ). turned_to x l (bit (covers_at n c r l))) e ∙ turned_no (covers_at n c r) (covers_at n c r) l ok.sum.layer (λ _ _ _. refl) ∙ sym e

  count : (r : ℕ) → a ≤ r → r < b → taken_over (row_at n c l r) (run_to n d l a (suc (r - a))) ≡ row_at n c l r
  count r g h = omega (arith, run (suc (r - a)) (omega arith))

  pub layer_unmarked : Summed n l a b c c m m d d
  layer_unmarked = record {
    counts = record {
      long = refl;
      made = λ p g h.
          let z : p - (l * n + a) ≡ p - l * n - a = omega arith in
          let y : l * n + (p - l * n) ≡ p = omega arith in
          rw z (sym (rw y at (count (p - l * n) (omega arith) (omega arith))));
      same = λ _ _. refl;
    };
    digits = record {
      long = refl;
      made = λ r g h. sym (ap (λ (x : ℕ). turned_to (get_or m r 0) l (bit (covers (pos x -ℤ pos 8192)))) (count r g h) ∙ cover r (omega (arith, ok.sum.top)));
      same = λ _ _. refl;
    };
    marks = record {
      long = refl;
      made = λ p g h.
          let y : l * n + (a + (p - l * n - a)) ≡ p = omega arith in
          rw y at (fresh (p - l * n - a) (omega arith));
      same = λ _ _. refl;
    };
  }
