-- The loop over the layers: those below k are summed up. Assumes nothing.
--
--   passed_out   a pass over the places of one layer, strip by strip
--   run_same                the sums of a layer's marks are of that layer's marks only
--   covered_on              a layer summed up leaves each cover with the digits of its counts
--   all_layer, all_turn   the loop
use mathlib.Core.Path.{◌≡◌, refl, sym, ap, ap₂, ◌∙◌}
use mathlib.Core.List.{List}
use Prim.Native.Nat.{ℕ, zero, suc, ◌+◌, ◌*◌, ◌-◌, ◌<◌, ◌≤◌}
use native.Mathlib.Omega.{arith}
use native.Mathlib.Nat.{mul-le-mul_right}
use native.Mathlib.Decide.{dec_lt, ℕ_discrete}
use lib.IntN.{pos, ◌-ℤ◌}
use lib.ListN.{get_or}
use Rattle.meaning.specs.Numbers.{bit}
use Rattle.meaning.specs.Edges.{covers}
use Rattle.basic_laws.specs.Bits.{of_bits, of_bits_same}
use Rattle.strips.specs.Rows.{row_at}
use Rattle.strips.specs.Cover.{turned_to, Passed}
use Rattle.strips.specs.CoverLaws.{turned_no}
use Rattle.strips.specs.Strips.{taken_over}
use Rattle.marks.specs.Marks.{run_to, Summed, covers_at, Covered, LayerOk, AllOk, SummedBelow}

-- ---- one layer's places

layer_of_place : (n j l q : ℕ) → q < n → l * n ≤ j * n + q → j * n + q < l * n + n → j ≡ l
layer_of_place n j l q h u v = go (dec_lt j l) (dec_lt l j)
  where
    go : Dec (j < l) → Dec (l < j) → j ≡ l
    go (yes w) _ = let m : (j + 1) * n ≤ l * n = mul-le-mul_right n (omega arith) in let z : ⊥ = omega arith in absurd z
    go (no _) (yes w) = let m : (l + 1) * n ≤ j * n = mul-le-mul_right n (omega arith) in let z : ⊥ = omega arith in absurd z
    go (no w) (no w') = omega arith

passed_out : {n l a e : ℕ} {f : ℕ → ℕ} {xs₀ xs : List ℕ} → Passed 0 f (l * n + a) e xs₀ xs → e ≤ l * n + n → (j r : ℕ) → r < n → (j ≡ l → a ≤ r → l * n + r < e → ⊥) → row_at n xs j r ≡ row_at n xs₀ j r
passed_out {n} {l} {a} {e} P top j r hr no_one = P.same (j * n + r) go
  where
    go : l * n + a ≤ j * n + r → j * n + r < e → ⊥
    go u v =
        let q : j ≡ l = layer_of_place n j l r hr (omega arith) (omega arith) in
        let p : j * n ≡ l * n = ap (λ (k : ℕ). k * n) q in
        no_one q (omega arith) (omega arith)

run_same : (n : ℕ) (d₀ d : List ℕ) (l a k : ℕ) → ((j : ℕ) → j < k → row_at n d l (a + j) ≡ row_at n d₀ l (a + j)) → run_to n d l a k ≡ run_to n d₀ l a k
unfolding run_to
run_same n d₀ d l a zero h = refl
run_same n d₀ d l a (suc k) h = ap₂ taken_over (run_same n d₀ d l a k (λ j u. h j (omega arith))) (h k (omega arith))

-- ---- one layer more

module _ {n l a b : ℕ} {c c' m m' d d' : List ℕ} (ok : LayerOk n l a b c m d) (S : Summed n l a b c c' m m' d d') where
  row_in : (r : ℕ) → a ≤ r → r < b → row_at n c' l r ≡ taken_over (row_at n c l r) (run_to n d l a (suc (r - a)))
  row_in r g h = let z : l * n + r - (l * n + a) ≡ r - a = omega arith in rw z at (S.counts.made (l * n + r) (omega arith) (omega arith))

  row_out : (j r : ℕ) → r < n → (j ≡ l → a ≤ r → r < b → ⊥) → row_at n c' j r ≡ row_at n c j r
  row_out j r hr no_one = passed_out S.counts (omega (arith, ok.sum.top)) j r hr (λ e u v. no_one e u (omega arith))

  mark_in : (r : ℕ) → a ≤ r → r ≤ b → row_at n d' l r ≡ 8192
  mark_in r g h = S.marks.made (l * n + r) (omega arith) (omega arith)

  mark_out : (j r : ℕ) → r < n → (j ≡ l → a ≤ r → r ≤ b → ⊥) → row_at n d' j r ≡ row_at n d j r
  mark_out j r hr no_one = passed_out S.marks (omega (arith, ok.sum.top)) j r hr (λ e u v. no_one e u (omega arith))

  at_same : (r : ℕ) → r < n → (k : ℕ) → (k ≡ l → a ≤ r → r < b → ⊥) → covers_at n c' r k ≡ covers_at n c r k
  at_same r hr k no_one = ap (λ (x : ℕ). covers (pos x -ℤ pos 8192)) (row_out k r hr no_one)

  covered_on : Covered n c' m'
  covered_on = record { is = λ r hr. go r hr (dec_lt r a) (dec_lt r b) }
    where
      go : (r : ℕ) → r < n → Dec (r < a) → Dec (r < b) → get_or m' r 0 ≡ of_bits 8 (covers_at n c' r)
      go r hr (yes u) _ =
          S.digits.same r (λ w _. let z : ⊥ = omega arith in absurd z) ∙ ok.covered.is r hr
          ∙ of_bits_same 8 _ _ (λ k _. sym (at_same r hr k (λ _ w _. let z : ⊥ = omega arith in absurd z)))
      go r hr (no u) (no v) = S.digits.same r (λ _ w. v w) ∙ ok.covered.is r hr ∙ of_bits_same 8 _ _ (λ k _. sym (at_same r hr k (λ _ _ w. v w)))
      go r hr (no u) (yes v) =
          S.digits.made r (omega arith) v
          ∙ ap₂ (λ (x y : ℕ). turned_to x l (bit (covers (pos y -ℤ pos 8192)))) (ok.covered.is r hr) (sym (row_in r (omega arith) v))
          ∙ turned_no (covers_at n c r) (covers_at n c' r) l ok.sum.layer (λ k _ e. at_same r hr k (λ q _ _. e q))

-- ---- the loop

pub record SummingAll (n a b k : ℕ) (c₀ c m₀ m d₀ d : List ℕ) : Type 0 where
  pub to : k ≤ 8
  pub summed : SummedBelow n a b k c₀ c m₀ m d₀ d

module _ {n a b k : ℕ} {c₀ c m₀ m d₀ d : List ℕ} (ok : AllOk n a b c₀ m₀ d₀) (S : SummingAll n a b k c₀ c m₀ m d₀ d) (h : k < 8) where
  mark_old : (r : ℕ) → r < n → row_at n d k r ≡ row_at n d₀ k r
  mark_old r hr = S.summed.still_marks k r h hr (λ u _ _. let z : ⊥ = omega arith in absurd z)

  row_old : (r : ℕ) → r < n → row_at n c k r ≡ row_at n c₀ k r
  row_old r hr = S.summed.still k r h hr (λ u _ _. let z : ⊥ = omega arith in absurd z)

  run_old : (j : ℕ) → a + j ≤ n → run_to n d k a j ≡ run_to n d₀ k a j
  run_old j g = run_same n d₀ d k a j (λ i u. mark_old (a + i) (omega arith))

  pub all_layer : LayerOk n k a b c m d
  all_layer =
      let o = ok.sums k h in
      record {
        sum = record {
          long = S.summed.long ∙ o.long;
          covers = S.summed.long_covers ∙ o.covers;
          marks = S.summed.long_marks ∙ o.marks;
          few = o.few;
          layer = h;
          order = o.order;
          top = o.top;
          run_enough = λ j u. rw (run_old j (omega (arith, o.top)), mark_old (a + j) (omega (arith, o.top))) (o.run_enough j u);
          run_fits = λ j u. rw (run_old j (omega (arith, o.top)), mark_old (a + j) (omega (arith, o.top))) (o.run_fits j u);
          enough = λ j u. rw (run_old (suc j) (omega (arith, o.top)), row_old (a + j) (omega (arith, o.top))) (o.enough j u);
          fits = λ j u. rw (run_old (suc j) (omega (arith, o.top)), row_old (a + j) (omega (arith, o.top))) (o.fits j u);
        };
        covered = S.summed.covered;
      }

  pub all_turn : {c' m' d' : List ℕ} → Summed n k a b c c' m m' d d' → SummingAll n a b (k + 1) c₀ c' m₀ m' d₀ d'
  all_turn {c'} {m'} {d'} T = record {
    to = omega arith;
    summed = record {
      long = T.counts.long ∙ S.summed.long;
      long_covers = T.digits.long ∙ S.summed.long_covers;
      long_marks = T.marks.long ∙ S.summed.long_marks;
      counts = λ l r u v w. counts l r u v w (ℕ_discrete l k);
      still = λ l r u v w. row_out all_layer T l r v (λ e x y. w (omega arith) x y) ∙ S.summed.still l r u v (λ e x y. w (omega arith) x y);
      covered = covered_on all_layer T;
      still_covers = λ r u. T.digits.same r u ∙ S.summed.still_covers r u;
      marks = λ l r u v w. marks l r u v w (ℕ_discrete l k);
      still_marks = λ l r u v w. mark_out all_layer T l r v (λ e x y. w (omega arith) x y) ∙ S.summed.still_marks l r u v (λ e x y. w (omega arith) x y);
    };
  }
    where
      top : b < n
      top = (ok.sums k h).top

      counts : (l r : ℕ) → l < k + 1 → a ≤ r → r < b → Dec (l ≡ k) → row_at n c' l r ≡ taken_over (row_at n c₀ l r) (run_to n d₀ l a (suc (r - a)))
      counts l r u v w (yes e) = rw e (row_in all_layer T r v w ∙ ap₂ taken_over (row_old r (omega (arith, top))) (run_old (suc (r - a)) (omega (arith, top))))
      counts l r u v w (no e) = row_out all_layer T l r (omega (arith, top)) (λ q _ _. e q) ∙ S.summed.counts l r (omega arith) v w

      marks : (l r : ℕ) → l < k + 1 → a ≤ r → r ≤ b → Dec (l ≡ k) → row_at n d' l r ≡ 8192
      marks l r u v w (yes e) = rw e (mark_in all_layer T r v w)
      marks l r u v w (no e) = mark_out all_layer T l r (omega (arith, top)) (λ q _ _. e q) ∙ S.summed.marks l r (omega arith) v w
