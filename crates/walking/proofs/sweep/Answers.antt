-- `walking::sweep` meets its contract. Assumes nothing.

use Rattle.walking.proofs.sweep.Goals as goal

pub write-requires : goal.write-requires
write-requires c = c.requires.ready _ _ c.in_order-base.ensures

pub returns-clause-swept : goal.returns-clause-swept
returns-clause-swept c = record { base = _; ws = _; order = c.in_order-base.ensures; wrote = c.write.ensures.wrote }
