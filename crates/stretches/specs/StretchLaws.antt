-- What `next` may answer is one, and so is what it leaves. Assumes nothing.
--
--   told_one   two lists told alike are equal
--   next_one   two answers of `next` are equal, and so is what they leave
use Rattle.std.specs.Prelude.{◌≡◌, refl, Bool, not, List, ℕ, ◌<◌, get_or, Option, Some, None}
use Rattle.std.proofs.Common.{sym, ap, ap₂, ◌∙◌, arith, ext_get_or}
use Rattle.std.proofs.Math.Decide.{dec_lt}
use Rattle.basic_laws.specs.Tests.{not_self}
use Rattle.stretches.specs.declared.Stretch.{Stretch}
use Rattle.stretches.specs.Stretches.{Quiet, Told, StretchIs, NextIs}

pub told_one : (covers : List ℕ) (a b b' : ℕ) (told₀ told told' : List ℕ) → b ≡ b' → Told covers a b told₀ told → Told covers a b' told₀ told' → told ≡ told'
told_one covers a b b' told₀ told told' e P Q = ext_get_or 0 told told' (P.long ∙ sym Q.long) (λ r _. go r (dec_lt r a) (dec_lt r b))
  where
    go : (r : ℕ) → Dec (r < a) → Dec (r < b) → get_or told r 0 ≡ get_or told' r 0
    go r (yes u) v = P.same r (λ w _. let z : ⊥ = omega arith in absurd z) ∙ sym (Q.same r (λ w _. let z : ⊥ = omega arith in absurd z))
    go r (no u) (yes v) = P.made r (omega arith) v ∙ sym (Q.made r (omega arith) (omega arith))
    go r (no u) (no v) = P.same r (λ _ w. v w) ∙ sym (Q.same r (λ _ w. v (omega arith)))

abbrev stretch_by : ℕ → ℕ → Bool → Stretch
stretch_by a b i = record { from = a; to = b; inside = i }

stretch_is : (t t' : Stretch) → t.from ≡ t'.from → t.to ≡ t'.to → t.inside ≡ t'.inside → t ≡ t'
stretch_is t t' a b i =
    let p : stretch_by t.from t.to t.inside ≡ stretch_by t'.from t'.to t.inside = ap₂ (λ (x y : ℕ). stretch_by x y t.inside) a b in
    let q : stretch_by t'.from t'.to t.inside ≡ stretch_by t'.from t'.to t'.inside = ap (stretch_by t'.from t'.to) i in
    p ∙ q

module _ {told₀ covers : List ℕ} {truth : List Bool} {r hi : ℕ} where
  -- a strip that changes is not passed over
  not_quiet : {told : List ℕ} {t : Stretch} {s : ℕ} → StretchIs told₀ told covers truth r hi t → Quiet told₀ covers truth r s → t.from < s → ⊥
  not_quiet {told} {t} N q l =
      let k : t.from < t.to = N.some in
      not_self t.inside (sym (N.is t.from (omega arith) k) ∙ sym (q t.from N.from l) ∙ N.was t.from (omega arith) k)

  -- nor is the end
  not_longer : {told told' : List ℕ} {t t' : Stretch} → StretchIs told₀ told covers truth r hi t → StretchIs told₀ told' covers truth r hi t' → t.from ≡ t'.from → t.inside ≡ t'.inside → t.to < t'.to → ⊥
  not_longer {told} {told'} {t} {t'} N N' e i l =
      N.stop (omega (arith, N'.to)) (N'.was t.to (omega (arith, N.some)) l ∙ ap not (sym i)) (N'.is t.to (omega (arith, N.some)) l ∙ sym i)

  same_stretch : {told told' : List ℕ} {t t' : Stretch} → StretchIs told₀ told covers truth r hi t → StretchIs told₀ told' covers truth r hi t' → (t ≡ t') × (told ≡ told')
  same_stretch {told} {told'} {t} {t'} N N' = (stretch_is t t' from to inside, told_one covers r t.to t'.to told₀ told told' to N.leaves N'.leaves)
    where
      from : t.from ≡ t'.from
      from = go (dec_lt t.from t'.from) (dec_lt t'.from t.from)
        where
          go : Dec (t.from < t'.from) → Dec (t'.from < t.from) → t.from ≡ t'.from
          go (yes u) v = absurd (not_quiet N N'.quiet u)
          go (no u) (yes v) = absurd (not_quiet N' N.quiet v)
          go (no u) (no v) = omega arith

      inside : t.inside ≡ t'.inside
      inside = sym (N.is t.from (omega arith) N.some) ∙ N'.is t.from (omega (arith, from)) (omega (arith, from, N'.some))

      to : t.to ≡ t'.to
      to = go (dec_lt t.to t'.to) (dec_lt t'.to t.to)
        where
          go : Dec (t.to < t'.to) → Dec (t'.to < t.to) → t.to ≡ t'.to
          go (yes u) v = absurd (not_longer N N' from inside u)
          go (no u) (yes v) = absurd (not_longer N' N (sym from) (sym inside) v)
          go (no u) (no v) = omega arith

pub next_one : (told₀ covers : List ℕ) (truth : List Bool) (r hi : ℕ) (told told' : List ℕ) (o o' : Option Stretch) → NextIs told₀ told covers truth r hi o → NextIs told₀ told' covers truth r hi o' → (o ≡ o') × (told ≡ told')
next_one told₀ covers truth r hi told told' (Some t) (Some t') N N' = let p = same_stretch N N' in (ap Some p.0, p.1)
next_one told₀ covers truth r hi told told' (Some t) None N N' = absurd (not_quiet N N'.quiet (omega (arith, N.some, N.to)))
next_one told₀ covers truth r hi told told' None (Some t') N N' = absurd (not_quiet N' N.quiet (omega (arith, N'.some, N'.to)))
next_one told₀ covers truth r hi told told' None None N N' = (refl, told_one covers r hi hi told₀ told told' refl N.leaves N'.leaves)
