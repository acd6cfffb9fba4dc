-- `levels::read` meets its contract. The loop: the records found so far and those that are pending are the line's. Assumes nothing.
use Prim.Native.Nat.{◌-◌}
use Rattle.levels.proofs.LineLaws.{Lining}
use Rattle.levels.proofs.read.Given as goal

abbrev pub invariant-loop-s : goal.invariant-loop-s
invariant-loop-s l = Lining l.initial.loc l.initial.so_far.count l.initial.so_far.sum l.y l.vx l.initial.told l.line.covers.now l.line.truth.now l.lo l.line.hi l.loc l.told l.so_far.count l.so_far.sum l.r

abbrev pub decreases-loop-s : goal.decreases-loop-s
decreases-loop-s l = l.line.hi - l.r
