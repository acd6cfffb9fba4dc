-- `drawing::halved` meets its contract. After i turns x is exactly d / 2^i, and the law `times` says that one more half is exact. Assumes nothing.
use Prim.Native.Nat.{◌+◌, ◌≤◌}
use native.Mathlib.Omega.{arith}
use lib.IntN.{ℤ, nat_abs}
use mir.Syntax.{w64}
use mir.Val.{SFits, to_z, of_z}
use mir.ValLaws.{to_z-of_z}
use Rattle.meaning.specs.Drawn.{farthest}
use Rattle.drawing.proofs.Exact.{cast_exact, times}
use Rattle.drawing.proofs.halved.Goals as goal

-- a signed local is its bits, from which the machine reads it back
near : (d : ℤ) → SFits w64 d → nat_abs d ≤ farthest → nat_abs (to_z w64 (of_z w64 d)) ≤ farthest
near d f h = rw (to_z-of_z w64 d f) h

pub loop-init : goal.loop-init
loop-init c = cast_exact _ (near _ c.ranges.d c.requires.d_bound)

pub loop-preserved : goal.loop-preserved
loop-preserved c =
    let l : c.loop.counter + 1 ≤ 16 = omega arith in
    times _ c.loop.counter 1 c.loop.x (near _ c.ranges.d c.requires.d_bound) l c.loop.invariant
