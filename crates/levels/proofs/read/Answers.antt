-- `levels::read` meets its contract. The loop: the records found so far and those that are pending are the line's. Assumes nothing.
use native.Mathlib.Omega.{arith}
use Rattle.levels.proofs.LineLaws.{read_start, rows_in, room_in, weight_ok, read_turn, read_done}
use Rattle.levels.proofs.read.Goals as goal

pub loop-s-init : goal.loop-s-init
loop-s-init c = read_start c.requires

pub next-requires : goal.next-requires
next-requires c = rows_in c.requires c.loop-s.invariant

pub bounds-loc-so_far : goal.bounds-loc-so_far
bounds-loc-so_far c = let K = c.in-Some.ensures in room_in c.requires c.loop-s.invariant (omega (arith, K.from, K.some, K.to))

pub weighed-requires : goal.weighed-requires
weighed-requires c = weight_ok c.requires c.loop-s.invariant c.in-Some.ensures

pub loop-s-preserved : goal.loop-s-preserved
loop-s-preserved c = read_turn c.requires c.loop-s.invariant c.in-Some.ensures c.directed.ensures c.weighed.ensures

pub returns : goal.returns
returns c = read_done c.requires c.loop-s.invariant c.in_default.ensures
