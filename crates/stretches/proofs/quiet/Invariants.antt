-- `stretches::quiet` meets its contract. The loop: where no cover so far is another, their number is none. Assumes nothing.
use mathlib.Core.Path.{◌≡◌}
use Prim.Native.Nat.{◌+◌, ◌≤◌}
use Rattle.stretches.specs.Stretches.{Alike}
use Rattle.stretches.proofs.quiet.Given as goal

abbrev pub invariant-loop-k : goal.invariant-loop-k
invariant-loop-k l = (l.k ≤ 64) × (l.n ≤ l.k) × (l.n ≡ 0 → Alike l.told l.covers l.a (l.a + l.k))
