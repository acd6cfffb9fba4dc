-- `stretches::skip_blocks` meets its contract. The loop: the covers passed are the same. Assumes nothing.
use Prim.Native.Nat.{◌-◌, ◌≤◌}
use Rattle.stretches.specs.Stretches.{Alike}
use Rattle.stretches.proofs.skip_blocks.Given as goal

abbrev pub invariant-loop-q : goal.invariant-loop-q
invariant-loop-q l = (l.r ≤ l.q) × (l.q ≤ l.hi) × Alike l.told l.covers l.r l.q

abbrev pub decreases-loop-q : goal.decreases-loop-q
decreases-loop-q l = l.hi - l.q
