-- `readers::whole` meets its contract. Assumes nothing.
use Rattle.readers.proofs.Pieces.{whole_refused, whole_short, whole_got}
use Rattle.readers.proofs.whole.Goals as goal

pub returns-in_default : goal.returns-in_default
returns-in_default c = whole_refused _ _ c.sum-r.ensures c.in_default.is

pub returns-then-next-text : goal.returns-then-next-text
returns-then-next-text c = whole_short _ _ c.sum-r.ensures c.in-Some.is c.if-next-text.true

pub returns : goal.returns
returns c = whole_got _ _ c.sum-r.ensures c.in-Some.is c.if-next-text.false
