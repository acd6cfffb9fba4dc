use Rattle.scanline.proofs.Scanline.crossing.Goals as goal

pub returns : goal.returns
returns c = cc
