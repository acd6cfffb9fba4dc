-- `crossings::many` meets its contract. Assumes nothing.
use mathlib.Core.Path.{◌∙◌}
use borrow.Author.Tests.{lt-leb}
use Rattle.crossings.specs.PlaceLaws.{many_no, many_told}
use Rattle.crossings.proofs.many.Goals as goal

pub returns-then-ws-g-ge-MANY : goal.returns-then-ws-g-ge-MANY
returns-then-ws-g-ge-MANY c = many_told _ _ c.if-ws-g-ge-MANY.true c.height.ensures c.height-then-ws-g-ge-MANY.ensures

pub returns-else-ws-g-ge-MANY : goal.returns-else-ws-g-ge-MANY
returns-else-ws-g-ge-MANY c = lt-leb 32 _ c.if-ws-g-ge-MANY.false ∙ many_no _ _ c.if-ws-g-ge-MANY.false
