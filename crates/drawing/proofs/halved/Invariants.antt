-- `drawing::halved` meets its contract. After i turns x is exactly d / 2^i, and the law `times` says that one more half is exact. Assumes nothing.
use Rattle.meaning.specs.Drawn.{ExactFloat}
use Rattle.drawing.proofs.halved.Given as goal

abbrev pub invariant-loop : goal.invariant-loop
invariant-loop l = ExactFloat l.d l.counter l.x
