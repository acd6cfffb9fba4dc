-- `closure::mark_all` meets its contract: the first k edges are marked. Assumes nothing.
use Prim.Native.Nat.{◌+◌}
use mathlib.Core.Path.{sym, subst}
use Rattle.closure.specs.TestLaws.{MarkedTo, mark_start, mark_room, mark_more, mark_end}
use borrow.Author.Rules.{rules}
use Rattle.closure.proofs.mark_all.Goals as goal

pub loop-k-init : goal.loop-k-init
loop-k-init c = mark_start c.requires

pub mark-requires : goal.mark-requires
mark-requires c =
    mark_room c.requires c.loop-k.invariant (search rules) c.from.result c.from-from.result c.from-to.result c.from.ensures c.from-from.ensures c.from-to.ensures

pub loop-k-preserved : goal.loop-k-preserved
loop-k-preserved c =
    subst (λ d. MarkedTo c.args.layers.now c.args.ends.now c.args.n d (c.loop-k.k + 1)) (sym c.mark.ensures)
    (mark_more c.requires c.loop-k.invariant (search rules) c.from.result c.from-from.result c.from-to.result c.from.ensures c.from-from.ensures c.from-to.ensures)

pub returns : goal.returns
returns c = mark_end c.requires c.loop-k.invariant (search rules)
