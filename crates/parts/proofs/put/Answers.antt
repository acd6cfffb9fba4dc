-- `parts::put` meets its contract. Assumes nothing.
use Prim.Native.Nat.{◌*◌}
use native.Mathlib.Omega.{arith}
use mathlib.Core.Path.{ap}
use lib.ListN.{length}
use Rattle.std.proofs.lemmas.List.{take_rest}
use Rattle.parts.proofs.OnePart.{place_ready, parted}
use Rattle.parts.proofs.Lent.{put_is}
use Rattle.parts.proofs.put.Goals as goal

pub place-requires : goal.place-requires
place-requires c =
    let l = c.put_levels in
    rw (take_rest l.new.out (4 * c.args.h)) (place_ready c.requires l.ensures)

pub returns : goal.returns
returns c =
    let l = c.put_levels in
    let p = c.place in
    parted c.requires l.ensures (put_is l.new.out p.new.out (4 * c.args.h))
    (omega (arith, p.auto.out, ap length (take_rest l.new.out (4 * c.args.h)))) (rw (take_rest l.new.out (4 * c.args.h)) at p.ensures) (omega (arith, l.auto.out))
