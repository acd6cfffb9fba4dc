-- `maskwriter::FileMade::add` meets its contract. Assumes nothing.
use Prim.Native.Nat.{ℕ, ◌<◌}
use native.Mathlib.Omega.{arith}
use mathlib.Core.Path.{subst⁻¹}
use lib.Dec.{lit≤}
use Rattle.meaning.specs.MaskFile.{most, five}
use Rattle.maskwriter.specs.Filed.{stored_fits}
use Rattle.maskwriter.proofs.FileMade.add.Goals as goal

pub put_number-requires : goal.put_number-requires
put_number-requires c = (lit≤ tt, (subst⁻¹ (λ (x : ℕ). x < most five) c.stored.ensures (stored_fits _ _ c.requires.follows), omega arith))
