use Rattle.scanline.proofs.Scanline.fresh.Goals as goal

pub returns : goal.returns
returns c = cc
