-- Neighbours along a list, and cyclic ones. Assumes nothing.
--
--   Along zs              neighbours along the list differ, last and first aside
--   along_snoc, closed    one more element that is not `Beside` them: the list is still open, or now closed
--   apart                 in a list whose cyclic neighbours differ, no element is `Beside` those before it
--   previous_from         the element before what comes next
use Rattle.std.specs.Prelude.{◌≡◌, refl, ◌≢◌, List, [], ◌∷◌, ◌++◌, ℕ, suc, ◌≤◌, ℤ, length}
use Rattle.std.proofs.Common.{sym, ap, subst, ◌∙◌, inl, inr, arith, length-append}
use Rattle.std.proofs.Math.Seq.{append_snoc}
use Rattle.meaning.specs.Rings.{All, back_to, Differ}
use Rattle.meaning.specs.Faults.{Beside, previous_or}

-- ---- open

abbrev pub AlongFrom : ℤ → List ℤ → Type 0
AlongFrom b [] = Unit {0}
AlongFrom b (c ∷ l) = (b ≢ c) × AlongFrom c l

abbrev pub Along : List ℤ → Type 0
Along [] = Unit {0}
Along (a ∷ l) = AlongFrom a l

along_from_more : (b : ℤ) (l : List ℤ) (z : ℤ) → AlongFrom b l → (((m : List ℤ) × (b ∷ l ≡ m ++ z ∷ [])) → ⊥) → AlongFrom b (l ++ z ∷ [])
along_from_more b [] z e n = (λ q. n ([], ap (λ a. a ∷ []) q), tt)
along_from_more b (c ∷ l) z e n = (e.0, along_from_more c l z e.1 (λ s. n (b ∷ s.0, ap (λ k. b ∷ k) s.1)))

pub along_snoc : (zs : List ℤ) (k : ℕ) (z : ℤ) → Along zs → (Beside zs k z → ⊥) → Along (zs ++ z ∷ [])
along_snoc [] k z e n = tt
along_snoc (a ∷ l) k z e n = along_from_more a l z e (λ s. n (inl s))

-- ---- closed

closed_from : (a b : ℤ) (l : List ℤ) (z : ℤ) → AlongFrom b l → (((m : List ℤ) × (b ∷ l ≡ m ++ z ∷ [])) → ⊥) → z ≢ a → All (λ n. n.0 ≢ n.1) (back_to a b (l ++ z ∷ []))
closed_from a b [] z e n h = (λ q. n ([], ap (λ a. a ∷ []) q), (h, tt))
closed_from a b (c ∷ l) z e n h = (e.0, closed_from a c l z e.1 (λ s. n (b ∷ s.0, ap (λ k. b ∷ k) s.1)) h)

pub closed : (zs : List ℤ) (k : ℕ) (z : ℤ) → 2 ≤ k → suc (length zs) ≡ k → Along zs → (Beside zs k z → ⊥) → Differ (zs ++ z ∷ [])
closed [] k z t h e n = absurd (omega arith)
closed (a ∷ l) k z t h e n = closed_from a a l z e (λ s. n (inl s)) (λ q. n (inr (h, (l, ap (λ x. x ∷ l) (sym q)))))

-- ---- back

module _ (a : ℤ) where
  apart_next : (b c d : ℤ) (m n : List ℤ) → All (λ n. n.0 ≢ n.1) (back_to a b (m ++ c ∷ d ∷ n)) → c ≢ d
  apart_next b c d [] n e = e.1.0
  apart_next b c d (x ∷ m) n e = apart_next x c d m n e.1

  apart_last : (b c : ℤ) (m : List ℤ) → All (λ n. n.0 ≢ n.1) (back_to a b (m ++ c ∷ [])) → c ≢ a
  apart_last b c [] e = e.1.0
  apart_last b c (x ∷ m) e = apart_last x c m e.1

-- two neighbours within the list
apart_two : (m : List ℤ) (c d : ℤ) (n : List ℤ) → Differ (m ++ c ∷ d ∷ n) → c ≢ d
apart_two [] c d n e = e.0
apart_two (a ∷ m) c d n e = apart_next a a c d m n e

none_after : (zs : List ℤ) (z : ℤ) (rest : List ℤ) → length (zs ++ z ∷ rest) ≡ suc (length zs) → rest ≡ []
none_after zs z [] h = refl
none_after zs z (a ∷ l) h = absurd (omega (arith, length-append zs (z ∷ a ∷ l)))

pub apart : (zs : List ℤ) (z : ℤ) (rest : List ℤ) (k : ℕ) → length (zs ++ z ∷ rest) ≡ k → Differ (zs ++ z ∷ rest) → Beside zs k z → ⊥
apart zs z rest k h e (inl s) =
    let q : zs ++ z ∷ rest ≡ s.0 ++ z ∷ z ∷ rest = ap (λ l. l ++ z ∷ rest) s.1 ∙ append_snoc s.0 z (z ∷ rest) in
    apart_two s.0 z z rest (subst Differ q e) refl
apart zs z rest k h e (inr s) =
    let r = none_after zs z rest (h ∙ sym s.0) in
    let q : zs ++ z ∷ rest ≡ z ∷ (s.1.0 ++ z ∷ []) = ap (λ l. zs ++ z ∷ l) r ∙ ap (λ l. l ++ z ∷ []) s.1.1 in
    apart_last z z z s.1.0 (subst Differ q e) refl

-- ---- before

pub previous_from : (d : ℤ) (zs : List ℤ) (z : ℤ) → previous_or d (zs ++ z ∷ []) ≡ z
previous_from d [] z = refl
previous_from d (a ∷ l) z = previous_from a l z
