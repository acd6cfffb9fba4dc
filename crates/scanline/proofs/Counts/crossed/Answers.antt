use Rattle.scanline.proofs.Counts.crossed.Goals as goal

pub returns-then-west : goal.returns-then-west
returns-then-west c = rw c.if-west.true

pub returns-else-west : goal.returns-else-west
returns-else-west c = rw c.if-west.false
