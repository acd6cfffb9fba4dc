-- Bounds that a k with no fault has. Assumes nothing.
use mathlib.Core.Path.{◌≡◌, refl, ap, ◌∙◌, sym}
use mathlib.Core.Bool.{Bool, true, false}
use Prim.Native.Nat.{ℕ, ◌≤◌}
use native.Mathlib.Omega.{arith}
use lib.Dec.{ltb}
use borrow.Author.Tests.{ltb-false}
use Rattle.meaning.specs.Numbers.{pick, limit}
use Rattle.std.specs.Prelude.{Option, Some, None}
use Rattle.answers.specs.declared.Refusal.{Refusal}
use Rattle.answers.specs.declared.Refusal.TheVariants.{RingOutOfRange, TooManyPairs}
use Rattle.rings.specs.State.{fault_by, fault_of}
use Rattle.rings.specs.declared.Due.{Due}
use Rattle.rings.specs.declared.Due.TheVariants.{Count}
use Rattle.rings.specs.declared.State.{State}

pub count_bounds : (s : State) (v : ℕ) → fault_of limit s v ≡ None → s.due ≡ Count → (1 ≤ v) × (v ≤ s.room)
unfolding fault_of
count_bounds s v e d = go (ltb v 2) (ltb s.room v) (ap (λ (c : Due). fault_by limit c s v) (sym d) ∙ e) (ltb-false v 2) (ltb-false s.room v)
  where
    go : (p q : Bool) → ◌≡◌ {A = Option (ℕ → Refusal)} (pick p (Some RingOutOfRange) (pick q (Some TooManyPairs) None)) None → (p ≡ false → 2 ≤ v) → (q ≡ false → v ≤ s.room) → (1 ≤ v) × (v ≤ s.room)
    go true q h f g = absurd (cc)
    go false true h f g = absurd (cc)
    go false false h f g = (omega (arith, f refl), g refl)
