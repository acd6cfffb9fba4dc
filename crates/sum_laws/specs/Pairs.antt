-- Lists that hold two numbers for each of n things, side by side. Assumes nothing.
--
--   Pairs a b out n   out starts with a 0, b 0, a 1, b 1, .. for the numbers below n
--   pairs_more        two stores more
--   halved            a number is twice its half, or one more
use Rattle.std.specs.Prelude.{◌≡◌, ◌⊎◌, List, ℕ, ◌+◌, ◌/◌, ◌%◌, ◌<◌, length, get_or, set}
use Rattle.std.proofs.Common.{sym, ap, ◌∙◌, ⊎_elim, inl, inr, eq-or-lt_of_le, arith, length-set, get_or-set_same, get_or-set_other}
use Rattle.std.proofs.Math.Decide.{ℕ_discrete}

abbrev pub Pairs : (ℕ → ℕ) → (ℕ → ℕ) → List ℕ → ℕ → Type 0
Pairs a b out n = (j : ℕ) → j < n → (get_or out (j + j) 0 ≡ a j) × (get_or out (j + j + 1) 0 ≡ b j)

pub pairs_more : (a b : ℕ → ℕ) (out : List ℕ) (i x y : ℕ) → Pairs a b out i → i + i + 1 < length out → x ≡ a i → y ≡ b i → Pairs a b (set (set out (i + i) x) (i + i + 1) y) (i + 1)
pairs_more a b out i x y P h p q j l =
    ⊎_elim
    (λ e. (
      ap (λ n. get_or new (n + n) 0) e ∙ first ∙ p ∙ ap a (sym e),
      ap (λ n. get_or new (n + n + 1) 0) e ∙ second ∙ q ∙ ap b (sym e),
    ))
    (λ g. (other (j + j) (omega arith) ∙ (P j g).0, other (j + j + 1) (omega arith) ∙ (P j g).1))
    (eq-or-lt_of_le {n = j} {m = i} (omega arith))
  where
    new : List ℕ
    new = set (set out (i + i) x) (i + i + 1) y

    first : get_or new (i + i) 0 ≡ x
    first = get_or-set_other (set out (i + i) x) (i + i + 1) (i + i) y 0 (λ e. omega arith) ∙ get_or-set_same out (i + i) x 0 (omega arith)

    second : get_or new (i + i + 1) 0 ≡ y
    second = get_or-set_same (set out (i + i) x) (i + i + 1) y 0 (rw length-set h)

    other : (k : ℕ) → k < i + i → get_or new k 0 ≡ get_or out k 0
    other k l = get_or-set_other (set out (i + i) x) (i + i + 1) k y 0 (λ e. omega arith) ∙ get_or-set_other out (i + i) k x 0 (λ e. omega arith)

pub halved : (p : ℕ) → (p / 2 + p / 2 ≡ p) ⊎ (p / 2 + p / 2 + 1 ≡ p)
halved p = go (ℕ_discrete (p % 2) 0)
  where
    go : Dec (p % 2 ≡ 0) → (p / 2 + p / 2 ≡ p) ⊎ (p / 2 + p / 2 + 1 ≡ p)
    go (yes e) = inl (omega arith)
    go (no n) = inr (omega arith)
