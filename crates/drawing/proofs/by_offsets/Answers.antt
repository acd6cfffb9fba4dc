-- `drawing::by_offsets` meets its contract. Assumes nothing.
use Rattle.std.proofs.Common.{refl, sym, ◌∙◌}
use Rattle.drawing.proofs.Rows.{offset_refused, offset_shown}
use Rattle.drawing.proofs.by_offsets.Goals as goal

pub returns-then-not-are_drawn : goal.returns-then-not-are_drawn
returns-then-not-are_drawn c = offset_refused _ _ _ _ _ (sym c.are_drawn.ensures ∙ c.if-not-are_drawn.true)

pub returns-then-level : goal.returns-then-level
returns-then-level c =
    offset_shown _ _ _ _ _ _ _ (sym c.are_drawn.ensures ∙ c.if-not-are_drawn.false) (rw c.if-level.true refl) c.halved-floats.ensures

pub returns-else-level : goal.returns-else-level
returns-else-level c =
    offset_shown _ _ _ _ _ _ _ (sym c.are_drawn.ensures ∙ c.if-not-are_drawn.false) (rw c.if-level.false refl) c.halved-floats.ensures
