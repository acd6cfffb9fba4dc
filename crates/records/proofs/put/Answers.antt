-- `records::put` meets its contract. Assumes nothing.
use native.Mathlib.Omega.{arith}
use Rattle.std.proofs.Common.{lt-ltb, le-ltb}
use mir.Facts.{to_z_pos}
use mir.Syntax.{w32}
use Rattle.records.specs.Put.{put_at}
use Rattle.records.proofs.Coordinates.{held32}
use Rattle.records.proofs.put.Goals as goal

pub returns-then-n-out : goal.returns-then-n-out
unfolding put_at
returns-then-n-out c =
    let a = c.args.given in
    let p = c.requires in
    simp (
      lt-ltb _ _ c.if-n-out.true,
      to_z_pos w32 {n = a.kind} (omega arith),
      held32 a.place _ c.coordinate.ensures p.place,
      held32 a.from _ c.coordinate-then-n-out.ensures p.from,
      held32 a.to _ c.coordinate-then-n-out-2.ensures p.to,
    )

pub returns-else-n-out : goal.returns-else-n-out
unfolding put_at
returns-else-n-out c = simp (le-ltb _ _ c.if-n-out.false)
