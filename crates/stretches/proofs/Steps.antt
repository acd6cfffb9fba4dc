-- What the loops of `skip` and `fill` keep. Assumes nothing.
use mathlib.Core.Path.{◌≡◌}
use mathlib.Core.Bool.{Bool, not}
use mathlib.Core.List.{List}
use Prim.Native.Nat.{ℕ, ◌<◌, ◌≤◌}
use Rattle.strips.specs.Cover.{look}
use Rattle.stretches.specs.Stretches.{Quiet, Told}

-- the strips from r on, below q, neither come inside nor go out
pub record Skipping (told₀ told covers : List ℕ) (truth : List Bool) (r hi q : ℕ) : Type 0 where
  pub from : r ≤ q
  pub to : q ≤ hi
  pub quiet : Quiet told₀ covers truth r q
  pub leaves : Told covers r q told₀ told

-- the strips from s on, below e, become b
pub record Filling (told₀ told covers : List ℕ) (truth : List Bool) (s hi : ℕ) (b : Bool) (e : ℕ) : Type 0 where
  pub from : s ≤ e
  pub to : e ≤ hi
  pub was : (q : ℕ) → s ≤ q → q < e → look truth told₀ q ≡ not b
  pub is : (q : ℕ) → s ≤ q → q < e → look truth covers q ≡ b
  pub leaves : Told covers s e told₀ told
