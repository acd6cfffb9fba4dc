-- `numbers::put_number` meets its contract, group by group; the groups left fall. Assumes nothing.
use Rattle.numbers.proofs.Groups.{write_one, several, write_more}
use Rattle.numbers.proofs.+put_number.Goals as goal

pub returns-then-v-lt128 : goal.returns-then-v-lt128
returns-then-v-lt128 t c = write_one _ _ _ _ _ c.requires.0 c.if-v-lt128.true c.put.ensures

pub returns : goal.returns
returns t c = let s = several _ _ c.requires.1.0 c.if-v-lt128.false in write_more _ _ _ _ _ _ _ s c.put-2.ensures c.put_number.ensures.0 c.put_number.ensures.1
