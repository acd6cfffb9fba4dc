-- `edges::judge` meets its contract: the records before k are good, and each return gives the row that then applies. Assumes nothing.
use mathlib.Core.Path.{◌≡◌}
use Prim.Native.Nat.{◌/◌}
use lib.ListN.{length}
use Rattle.meaning.specs.Numbers.{limit}
use Rattle.edges.specs.Refusals.{FineTo}
use Rattle.edges.proofs.judge.Given as goal

abbrev pub invariant-loop-k : goal.invariant-loop-k
invariant-loop-k l = (l.n ≡ length l.edges / 4) × FineTo 7 limit l.edges l.k
