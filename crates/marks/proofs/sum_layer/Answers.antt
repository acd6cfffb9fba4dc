-- `marks::sum_layer` meets its contract. Assumes nothing.
use mathlib.Core.Path.{sym, ◌∙◌}
use Rattle.marks.proofs.FlatLaws.{layer_unmarked}
use Rattle.marks.proofs.sum_layer.Goals as goal

pub returns-then-uneven-eq0-clause-summed : goal.returns-then-uneven-eq0-clause-summed
returns-then-uneven-eq0-clause-summed c = layer_unmarked c.requires (sym c.uneven.ensures ∙ c.if-uneven-eq0.true)
