-- `numbers::put_number` meets its contract, group by group; the groups left fall. Assumes nothing.

use Rattle.numbers.proofs.+put_number.Given as goal

abbrev pub decreases-put_number : goal.decreases-put_number
decreases-put_number l = l.groups
