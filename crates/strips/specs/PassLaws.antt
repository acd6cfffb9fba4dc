-- Laws of one pass. Assumes nothing.
--
--   pass_start   before its first place all is as it was
--   pass_here    and so is the place that it has come to
use Rattle.std.specs.Prelude.{◌≡◌, refl, List, ℕ, get_or}
use Rattle.std.proofs.Common.{arith}
use Rattle.strips.specs.Cover.{Passed}

pub pass_start : (f : ℕ → ℕ) (a : ℕ) (xs : List ℕ) → Passed 0 f a a xs xs
pass_start f a xs = record { long = refl; made = λ r g h. let z : ⊥ = omega arith in absurd z; same = λ r _. refl }

pub pass_here : (f : ℕ → ℕ) (a r : ℕ) (xs₀ xs : List ℕ) → Passed 0 f a r xs₀ xs → get_or xs r 0 ≡ get_or xs₀ r 0
pass_here f a r xs₀ xs P = P.same r (λ _ u. let z : ⊥ = omega arith in absurd z)
