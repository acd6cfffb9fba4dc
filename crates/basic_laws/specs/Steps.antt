-- Steps: a coordinate n steps above -L, and the way back. Orders and equations of coordinates are those of their steps. Assumes nothing.
--
--   lift L z            z + L: the steps from -L to z
--   step_lt, step_le, step_eq     tests of steps
--   step_pred           one step less is the number before
--   step_range          a step within the range is a coordinate
--   lift_step, step_lift, lift_le   the way back
--   le_lift, lt_lift    a coordinate against a step
--   beyond              a number that is no coordinate lies below or above the range
--   lowered L r         the record of coordinates that a record in steps stands for
use Rattle.std.specs.Prelude.{◌≡◌, refl, true, false, ◌⊎◌, ℕ, zero, suc, ◌+◌, ◌-◌, ◌*◌, ◌≤◌, ◌<◌, leb, ltb, eqb, ℤ, pos, negsuc, neg_ℤ}
use Rattle.std.proofs.Common.{sym, ap, ap₂, ◌∙◌, inl, inr, arith, le-leb, lt-ltb, le-ltb, leb-true, leb-false, ne_eqb}
use Rattle.std.proofs.Math.Decide.{dec_lt}
use Rattle.std.proofs.Math.IntN.{pred_ℤ}
use Rattle.std.specs.Int.Signed.{lt_z, le_z}
use Rattle.std.proofs.lemmas.Bool.{lt-leb}
use Rattle.meaning.specs.Numbers.{eq_z, in_range, step}
use Rattle.meaning.specs.Records.{Record, rec}
use Rattle.basic_laws.specs.Tests.{leb_same, eqb_same}
use Rattle.basic_laws.specs.Signed.{minus_sub, sub_pos, sub_neg}

unfoldable pub lift : ℕ → ℤ → ℕ
lift L (pos n) = n + L
lift L (negsuc n) = L - suc n

-- a step lies below zero, or not
data Side (L n : ℕ) : Type 0 where
  low : n < L → step L n ≡ negsuc (L - suc n) → Side L n
  high : L ≤ n → step L n ≡ pos (n - L) → Side L n

side : (L n : ℕ) → Side L n
unfolding step
side L n = go (dec_lt n L)
  where
    go : Dec (n < L) → Side L n
    go (yes p) = low p (minus_sub n L ∙ sub_neg n L (L - suc n) (omega arith))
    go (no p) = high (omega arith) (minus_sub n L ∙ sub_pos n L (n - L) (omega arith))

pub step_lt : (L a b : ℕ) → lt_z (step L a) (step L b) ≡ ltb a b
step_lt L a b = go (side L a) (side L b)
  where
    go : Side L a → Side L b → lt_z (step L a) (step L b) ≡ ltb a b
    go (low p q) (low u v) = ap₂ lt_z q v ∙ leb_same (suc (L - suc b)) (L - suc a) (suc a) b (λ h. omega arith) (λ h. omega arith)
    go (low p q) (high u v) = ap₂ lt_z q v ∙ sym (lt-ltb a b (omega arith))
    go (high p q) (low u v) = ap₂ lt_z q v ∙ sym (le-ltb a b (omega arith))
    go (high p q) (high u v) = ap₂ lt_z q v ∙ leb_same (suc (a - L)) (b - L) (suc a) b (λ h. omega arith) (λ h. omega arith)

pub step_le : (L a b : ℕ) → le_z (step L a) (step L b) ≡ leb a b
step_le L a b = go (side L a) (side L b)
  where
    go : Side L a → Side L b → le_z (step L a) (step L b) ≡ leb a b
    go (low p q) (low u v) = ap₂ le_z q v ∙ leb_same (L - suc b) (L - suc a) a b (λ h. omega arith) (λ h. omega arith)
    go (low p q) (high u v) = ap₂ le_z q v ∙ sym (le-leb a b (omega arith))
    go (high p q) (low u v) = ap₂ le_z q v ∙ sym (lt-leb a b (omega arith))
    go (high p q) (high u v) = ap₂ le_z q v ∙ leb_same (a - L) (b - L) a b (λ h. omega arith) (λ h. omega arith)

pub step_eq : (L a b : ℕ) → eq_z (step L a) (step L b) ≡ eqb a b
unfolding eq_z
step_eq L a b = go (side L a) (side L b)
  where
    go : Side L a → Side L b → eq_z (step L a) (step L b) ≡ eqb a b
    go (low p q) (low u v) = ap₂ eq_z q v ∙ eqb_same (L - suc a) (L - suc b) a b (λ h. omega arith) (λ h. omega arith)
    go (low p q) (high u v) = ap₂ eq_z q v ∙ sym (ne_eqb a b (λ h. omega arith))
    go (high p q) (low u v) = ap₂ eq_z q v ∙ sym (ne_eqb a b (λ h. omega arith))
    go (high p q) (high u v) = ap₂ eq_z q v ∙ eqb_same (a - L) (b - L) a b (λ h. omega arith) (λ h. omega arith)

pub step_pred : (L n : ℕ) → pred_ℤ (step L (suc n)) ≡ step L n
step_pred L n = go (side L (suc n)) (side L n)
  where
    down : (m k : ℕ) → m ≡ suc k → pred_ℤ (pos m) ≡ pos k
    down zero k e = absurd (omega arith)
    down (suc m) k e = ap pos (omega arith)

    start : (m : ℕ) → m ≡ 0 → pred_ℤ (pos m) ≡ negsuc 0
    start zero e = refl
    start (suc m) e = absurd (omega arith)

    go : Side L (suc n) → Side L n → pred_ℤ (step L (suc n)) ≡ step L n
    go (low p q) (low u v) = ap pred_ℤ q ∙ ap negsuc (omega arith) ∙ sym v
    go (low p q) (high u v) = absurd (omega arith)
    go (high p q) (low u v) = ap pred_ℤ q ∙ start (suc n - L) (omega arith) ∙ ap negsuc (omega arith) ∙ sym v
    go (high p q) (high u v) = ap pred_ℤ q ∙ down (suc n - L) (n - L) (omega arith) ∙ sym v

pub step_range : (L n : ℕ) → n ≤ 2 * L → in_range L (step L n) ≡ true
step_range L n h = go (side L n)
  where
    go : Side L n → in_range L (step L n) ≡ true
    go (low p q) = ap (in_range L) q ∙ le-leb (suc (L - suc n)) L (omega arith)
    go (high p q) = ap (in_range L) q ∙ le-leb (n - L) L (omega arith)

-- ---- the way back

pub lift_step : (L n : ℕ) → lift L (step L n) ≡ n
unfolding lift
lift_step L n = go (side L n)
  where
    go : Side L n → lift L (step L n) ≡ n
    go (low p q) = ap (lift L) q ∙ omega arith
    go (high p q) = ap (lift L) q ∙ omega arith

pub step_lift : (L : ℕ) (z : ℤ) → in_range L z ≡ true → step L (lift L z) ≡ z
unfolding step lift
step_lift L (pos n) h = minus_sub (n + L) L ∙ sub_pos (n + L) L n (omega arith)
step_lift L (negsuc n) h = minus_sub (L - suc n) L ∙ sub_neg (L - suc n) L n (omega (arith, leb-true (suc n) L h))

pub lift_le : (L : ℕ) (z : ℤ) → in_range L z ≡ true → lift L z ≤ 2 * L
unfolding lift
lift_le L (pos n) h = omega (arith, leb-true n L h)
lift_le L (negsuc n) h = omega arith

pub le_lift : (L : ℕ) (z : ℤ) (n : ℕ) → in_range L z ≡ true → le_z z (step L n) ≡ leb (lift L z) n
le_lift L z n h = ap (λ (a : ℤ). le_z a (step L n)) (sym (step_lift L z h)) ∙ step_le L (lift L z) n

pub lt_lift : (L n : ℕ) (z : ℤ) → in_range L z ≡ true → lt_z (step L n) z ≡ ltb n (lift L z)
lt_lift L n z h = ap (lt_z (step L n)) (sym (step_lift L z h)) ∙ step_lt L n (lift L z)

-- ---- outside the range

pub beyond : (L : ℕ) (z : ℤ) → in_range L z ≡ false → (lt_z z (neg_ℤ (pos L)) ≡ true) ⊎ (lt_z (pos L) z ≡ true)
beyond L (pos n) h = inr (lt-ltb L n (leb-false n L h))
beyond zero (negsuc n) h = inl refl
beyond (suc L) (negsuc n) h = let u : suc L < suc n = leb-false (suc n) (suc L) h in inl (lt-ltb L n (omega arith))

-- ---- records

abbrev pub lowered : ℕ → Record ℕ → Record ℤ
lowered L (rec kind p f t) = rec kind (step L p) (step L f) (step L t)
