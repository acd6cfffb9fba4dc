-- `parts::put_levels` meets its contract. Assumes nothing.
use Rattle.parts.proofs.Levelling.{Levelling}
use Rattle.parts.proofs.put_levels.Given as goal

abbrev pub invariant-loop-i : goal.invariant-loop-i
invariant-loop-i l = Levelling l.ws l.vx l.n l.initial.out l.out l.i
