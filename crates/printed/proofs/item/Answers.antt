use native.Mathlib.Omega.{arith}
use mir.Facts.{to_z-of_z}
use Rattle.printed_laws.specs.Lengths.{held_length}
use Rattle.numerals.specs.Stored.{stored_then}
use Rattle.printed.proofs.item.Goals as goal

pub signed-requires : goal.signed-requires
signed-requires c = omega (arith, held_length c.args.z (omega arith))

pub byte-requires : goal.byte-requires
byte-requires c = omega (arith, held_length c.args.z (omega arith))

pub returns-clause-stored : goal.returns-clause-stored
returns-clause-stored c = stored_then (rw (to_z-of_z c.ranges.z) at c.signed.ensures) c.byte.ensures

pub returns-clause-short : goal.returns-clause-short
returns-clause-short c = omega (arith, held_length c.args.z (omega arith))
