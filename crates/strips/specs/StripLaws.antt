-- What one edge changes, strip by strip. Assumes nothing.
--
--   row_in, row_out       a strip that it spans, and any other
--   digit-in, digit-out   the same of covers
--   one_changed           the strips that it spans take over the eight counts with one of them changed by one
--   none_changed          the other strips keep their eight counts
use Rattle.std.specs.Prelude.{◌≡◌, refl, Bool, true, false, List, ℕ, zero, suc, ◌+◌, ◌*◌, ◌<◌, ◌≤◌, ltb, get_or, set}
use Rattle.std.proofs.Common.{sym, ap, ◌∙◌, arith, mul-le-mul_right, length-set, ext_get_or, get_or-set_same, get_or-set_other}
use Rattle.std.proofs.Math.Decide.{dec_lt, ℕ_discrete}
use Rattle.strips.specs.Rows.{row_at}
use Rattle.scanline.specs.declared.Counts.{Counts}
use Rattle.scanline.specs.Handed.{changed, crossed_by}
use Rattle.strips.specs.Strips.{taken_over, Taken, lower, upper, Crossed, counts_at}

-- a place among the rows of layer l is of layer l
layer_low : (n j l q b : ℕ) → b ≤ n → j * n + q < l * n + b → j ≤ l
layer_low n j l q b h e = go (dec_lt l j)
  where
    go : Dec (l < j) → j ≤ l
    go (yes u) = let m : (l + 1) * n ≤ j * n = mul-le-mul_right n (omega arith) in let z : ⊥ = omega arith in absurd z
    go (no u) = omega arith

layer_high : (n j l q a : ℕ) → q < n → l * n + a ≤ j * n + q → l ≤ j
layer_high n j l q a h e = go (dec_lt j l)
  where
    go : Dec (j < l) → l ≤ j
    go (yes u) = let m : (j + 1) * n ≤ l * n = mul-le-mul_right n (omega arith) in let z : ⊥ = omega arith in absurd z
    go (no u) = omega arith

module _ {n l a b h : ℕ} {c₀ c m₀ m : List ℕ} (T : Taken n l a b h c₀ c m₀ m) (top : b ≤ n) where
  pub row_in : (r : ℕ) → a ≤ r → r < b → row_at n c l r ≡ taken_over (row_at n c₀ l r) h
  row_in r g g' = T.counts.made (l * n + r) (omega arith) (omega arith)

  pub row_out : (j r : ℕ) → r < n → (j ≡ l → a ≤ r → r < b → ⊥) → row_at n c j r ≡ row_at n c₀ j r
  row_out j r hr no_one = T.counts.same (j * n + r) go
    where
      go : l * n + a ≤ j * n + r → j * n + r < l * n + b → ⊥
      go u v =
          let e : j ≡ l = omega (arith, layer_low n j l r b top v, layer_high n j l r a hr u) in
          let p : j * n ≡ l * n = ap (λ (k : ℕ). k * n) e in
          no_one e (omega arith) (omega arith)

-- ---- all eight counts of a strip

eight_at : (n : ℕ) (c : List ℕ) (r k : ℕ) → k < 8 → get_or (counts_at n c r).raised k 0 ≡ row_at n c k r
eight_at n c r zero h = refl
eight_at n c r (suc zero) h = refl
eight_at n c r (suc (suc zero)) h = refl
eight_at n c r (suc (suc (suc zero))) h = refl
eight_at n c r (suc (suc (suc (suc zero)))) h = refl
eight_at n c r (suc (suc (suc (suc (suc zero))))) h = refl
eight_at n c r (suc (suc (suc (suc (suc (suc zero)))))) h = refl
eight_at n c r (suc (suc (suc (suc (suc (suc (suc zero))))))) h = refl
eight_at n c r (suc (suc (suc (suc (suc (suc (suc (suc k)))))))) h = absurd (omega arith)

abbrev with_eight : List ℕ → Counts
with_eight xs = record { raised = xs }

change_is : (k h : ℕ) (w : Bool) → h ≡ changed 8192 w → taken_over k h ≡ changed k w
change_is k h true e = omega arith
change_is k h false e = omega arith

module _ {n l : ℕ} (f t : ℕ) {c₀ c m₀ m : List ℕ} (T : Crossed n l f t c₀ c m₀ m) (top : upper f t ≤ n) (hl : l < 8) (r : ℕ) where
  pub one_changed : lower f t ≤ r → r < upper f t → counts_at n c r ≡ crossed_by (counts_at n c₀ r) l (ltb t f)
  one_changed u v = ap with_eight (ext_get_or 0 (counts_at n c r).raised (set (counts_at n c₀ r).raised l new) (sym (length-set (counts_at n c₀ r).raised l new)) (λ k g. go k g (ℕ_discrete k l)))
    where
      new : ℕ
      new = changed (get_or (counts_at n c₀ r).raised l 0) (ltb t f)

      go : (k : ℕ) → k < 8 → Dec (k ≡ l) → get_or (counts_at n c r).raised k 0 ≡ get_or (set (counts_at n c₀ r).raised l new) k 0
      go k g (yes e) =
          rw e (
          eight_at n c r l hl
          ∙ row_in T top r u v
          ∙ change_is (row_at n c₀ l r) (changed 8192 (ltb t f)) (ltb t f) refl
          ∙ ap (λ (x : ℕ). changed x (ltb t f)) (sym (eight_at n c₀ r l hl))
          ∙ sym (get_or-set_same (counts_at n c₀ r).raised l new 0 hl))
      go k g (no e) =
          eight_at n c r k g
          ∙ row_out T top k r (omega arith) (λ q _ _. e q)
          ∙ sym (eight_at n c₀ r k g)
          ∙ sym (get_or-set_other (counts_at n c₀ r).raised l k new 0 e)

  pub none_changed : r < n → (lower f t ≤ r → r < upper f t → ⊥) → counts_at n c r ≡ counts_at n c₀ r
  none_changed hr d = ap with_eight (ext_get_or 0 (counts_at n c r).raised (counts_at n c₀ r).raised refl (λ k g. eight_at n c r k g ∙ row_out T top k r hr (λ _ u v. d u v) ∙ sym (eight_at n c₀ r k g)))
