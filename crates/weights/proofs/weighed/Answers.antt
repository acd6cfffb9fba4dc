-- `weights::weighed` meets its contract. Assumes nothing.
use mathlib.Core.Path.{refl}
use native.Mathlib.Omega.{arith}
use Rattle.weights.proofs.Weighing.{weigh_west, weigh_east}
use Rattle.weights.proofs.weighed.Goals as goal

pub returns-then-inside : goal.returns-then-inside
returns-then-inside c =
    let a = c.args in
    weigh_west a.sum a.y a.a a.b _ _ a.inside c.if-inside.true c.requires.order c.size-w.ensures (omega arith)

pub returns-else-inside : goal.returns-else-inside
returns-else-inside c =
    let a = c.args in
    weigh_east a.sum a.y a.a a.b _ _ a.inside c.if-inside.false c.requires.order c.size-w.ensures refl
