-- `ringedges::EdgesMade::add` meets its contract. Assumes nothing.
use native.Mathlib.Omega.{arith}
use Rattle.ringwalk.specs.Made.{follows_sane, follows_most}
use Rattle.ringedges.proofs.EdgesMade.add.Goals as goal

pub put_edge-requires : goal.put_edge-requires
put_edge-requires c =
    let k = follows_sane _ _ c.requires.follows in
    let m = follows_most _ _ c.requires.follows in
    (k.layer, (omega arith, (omega arith, (omega arith, omega arith))))

pub put_edge-requires-then-s-eq0 : goal.put_edge-requires-then-s-eq0
put_edge-requires-then-s-eq0 c =
    let k = follows_sane _ _ c.requires.follows in
    let m = follows_most _ _ c.requires.follows in
    (k.layer, (omega arith, (omega arith, (omega arith, omega arith))))
