use mathlib.Core.Path.{refl, sym, ap, ◌∙◌}
use native.Mathlib.Omega.{arith}
use lib.ListN.{length}
use Rattle.numerals.specs.Stored.{stored_then, stored_as}
use Rattle.numerals.proofs.Digits.{with_sign, without_sign}
use Rattle.numerals.proofs.Writer.signed.Goals.{then-z-lt0, else-z-lt0}
use Rattle.numerals.proofs.Writer.signed.Goals as goal

pub byte-requires : goal.byte-requires
byte-requires c = omega (arith, ap length (with_sign _ c.ranges.z refl c.if-z-lt0.true))

pub number-requires : goal.number-requires
number-requires c =
    let size = c.from.ensures ∙ c.unsigned_abs.ensures.value in
    elim c.if-z-lt0.branch [
      | then-z-lt0 w ↦ rw w.self-is (omega (arith, ap length (with_sign _ c.ranges.z size w.if-z-lt0.true), w.byte.ensures.written.place, w.byte.ensures.long))
      | else-z-lt0 w ↦ rw w.self-is (omega (arith, ap length (without_sign _ c.ranges.z size w.if-z-lt0.false)))
    ]

pub returns : goal.returns
returns c =
    let size = c.from.ensures ∙ c.unsigned_abs.ensures.value in
    elim c.if-z-lt0.branch [
      | then-z-lt0 w ↦ stored_as (sym (with_sign _ c.ranges.z size w.if-z-lt0.true)) (stored_then w.byte.ensures (rw w.self-is at c.number.ensures))
      | else-z-lt0 w ↦ stored_as (sym (without_sign _ c.ranges.z size w.if-z-lt0.false)) (rw w.self-is at c.number.ensures)
    ]
