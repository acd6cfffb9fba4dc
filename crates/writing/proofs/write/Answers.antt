-- `writing::write` meets its contract. Assumes nothing.
use Rattle.std.proofs.Common.{refl}
use Rattle.std.proofs.Math.Nat.{sub-zero}
use Rattle.writing.specs.Whole.{starts_ready, single_ready, single_done, again_ready, wrote_fits}
use Rattle.writing.proofs.write.Goals as goal

pub starts-requires : goal.starts-requires
starts-requires c = starts_ready c.requires c.measure-m.ensures.measured

pub put-requires : goal.put-requires
put-requires c = rw sub-zero (single_ready c.requires c.measure-m.ensures.measured _ c.if-out-h.false c.starts.ensures c.if-m-h.true)

pub again-requires : goal.again-requires
again-requires c =
    let k = c.measure-m.auto in
    again_ready c.requires c.measure-m.ensures.measured _ c.if-out-h.false c.starts.ensures c.measure-m.ensures.long.1 k.loc

pub returns-then-m-h-clause-wrote : goal.returns-then-m-h-clause-wrote
returns-then-m-h-clause-wrote c =
    wrote_fits c.requires c.measure-m.ensures.measured _ _ c.if-out-h.false
    (single_done c.requires c.measure-m.ensures.measured _ c.if-out-h.false c.starts.ensures c.if-m-h.true (rw sub-zero at c.put.ensures)) refl refl
