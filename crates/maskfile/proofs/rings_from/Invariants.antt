-- `maskfile::rings_from` meets its contract: the beginning of the file that has been read has no faulty number. Assumes nothing.
use Prim.Native.Nat.{◌-◌}
use lib.ListN.{length}
use Rattle.maskfile.proofs.Walk.{Reads}
use Rattle.maskfile.proofs.rings_from.Given as goal

abbrev pub invariant-loop-at : goal.invariant-loop-at
invariant-loop-at l = Reads l.file l.initial.out l.s l.at l.n l.out

abbrev pub decreases-loop-at : goal.decreases-loop-at
decreases-loop-at l = length l.file - l.at
