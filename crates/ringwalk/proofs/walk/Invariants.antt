-- `ringwalk::walk` meets its contract: the beginning of the list that has been read has no faulty number. Assumes nothing.
use Rattle.ringwalk.specs.Walks.{Walks}
use Rattle.ringwalk.proofs.walk.Given as goal

abbrev pub invariant-loop-i : goal.invariant-loop-i
invariant-loop-i g l = Walks g.M.Made.begins l.list l.fn.out l.s l.i l.n l.out
