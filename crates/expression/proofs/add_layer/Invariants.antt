-- `expression::add_layer` meets its contract. The invariant: the entries below m are right. Assumes nothing.
use Rattle.expression_laws.specs.Doubling.{Filled}
use Rattle.expression.proofs.add_layer.Given as goal

abbrev pub invariant-loop-m : goal.invariant-loop-m
invariant-loop-m l = Filled l.text l.m l.truth
