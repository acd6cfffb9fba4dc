use mathlib.Core.Path.{subst}
use borrow.Author.Rules.{rules}
use native.Mathlib.Omega.{arith}
use Rattle.printed_laws.specs.Lengths.{accepted_length, area_length}
use Rattle.printed_laws.specs.Lines.{accepted_text}
use Rattle.numerals.specs.Stored.{stored_then}
use Rattle.printed_laws.specs.Stores.{Front, at_front}
use Rattle.printed.proofs.accepted.Goals as goal

pub first_line-requires : goal.first_line-requires
first_line-requires c = omega (arith, accepted_length _ c.ranges.value.fits)

pub record_lines-requires : goal.record_lines-requires
record_lines-requires c = omega (arith, accepted_length _ c.ranges.value.fits)

pub area_line-requires : goal.area_line-requires
area_line-requires c = omega (arith, accepted_length _ c.ranges.value.fits, area_length _ c.ranges.cells.fits)

pub returns : goal.returns
unfolding accepted_text
returns c =
    subst (λ after. Front c.args.out.now (accepted_text c.args.value c.args.records.now c.args.cells) after c.area_line.new.to.at) (search rules)
    (at_front
    (stored_then c.first_line.ensures (stored_then c.record_lines.ensures.stored c.area_line.ensures)).written
    (omega (arith, accepted_length _ c.ranges.value.fits, area_length _ c.ranges.cells.fits)))
