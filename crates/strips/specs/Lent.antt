-- The rows lent, by what they were and what they are when they are handed back. Assumes nothing.
--
--   Lent s s'   both are still the slices that were lent
--   Long s s'   each is as long as it was
--   lent_on     so where they are lent on
use Rattle.std.specs.Prelude.{◌≡◌, length}
use Rattle.std.proofs.Common.{◌∙◌}
use Rattle.strips.specs.declared.Strips.{Strips}

abbrev pub Lent : Strips → Strips → Type 0
Lent s s' = (s'.counts.ghost_name ≡ s.counts.ghost_name) × (s'.covers.ghost_name ≡ s.covers.ghost_name)

abbrev pub Long : Strips → Strips → Type 0
Long s s' = (length s'.counts.now ≡ length s.counts.now) × (length s'.covers.now ≡ length s.covers.now)

pub lent_on : {A B : Type 0} {a a' a'' : A} {b b' b'' : B} → (a' ≡ a) × (b' ≡ b) → (a'' ≡ a') × (b'' ≡ b') → (a'' ≡ a) × (b'' ≡ b)
lent_on u v = (v.0 ∙ u.0, v.1 ∙ u.1)
