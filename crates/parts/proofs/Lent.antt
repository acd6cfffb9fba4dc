-- A buffer lent from place s on. Assumes nothing.
use mathlib.Core.Path.{◌≡◌}
use mathlib.Core.List.{List, ◌++◌, append-nil}
use Prim.Native.Nat.{ℕ, ◌-◌, ◌≤◌}
use native.Mathlib.Omega.{arith}
use lib.IntN.{ℤ}
use lib.ListN.{length, take, drop, length-drop, drop_of_length-le}
use borrow.Rule.Slice.PartMut.{put_mid}

pub put_is : (out ys : List ℤ) (s : ℕ) → put_mid s (length out - s) out ys ≡ take s out ++ ys
put_is out ys s =
    let n : length (drop s out) ≤ length out - s = omega (arith, length-drop s out) in
    rw (drop_of_length-le (drop s out) n, append-nil ys)
