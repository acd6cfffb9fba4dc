-- `expression::table` meets its contract. The invariant: the covers of the layers before have their entries. Assumes nothing.
use Prim.Native.Nat.{◌^◌}
use Rattle.expression_laws.specs.Doubling.{Filled}
use Rattle.expression.proofs.table.Given as goal

abbrev pub invariant-loop-layer : goal.invariant-loop-layer
invariant-loop-layer l = Filled l.text (2 ^ l.layer) l.truth
