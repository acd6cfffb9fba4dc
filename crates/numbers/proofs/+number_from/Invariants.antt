-- `numbers::number_from` meets its contract, group by group; the groups left fall. Assumes nothing.

use Rattle.numbers.proofs.+number_from.Given as goal

abbrev pub decreases-number_from : goal.decreases-number_from
decreases-number_from l = l.groups
