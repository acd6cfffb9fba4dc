use mathlib.Core.Path.{sym}
use Rattle.numerals.specs.Stored.{stored_then, stored_as}
use Rattle.printed_laws.specs.Lines.{first_words}
use Rattle.printed.proofs.first_line.Goals as goal

pub returns : goal.returns
returns c =
    stored_as (sym (first_words _ _))
    (stored_then c.number.ensures (stored_then c.byte.ensures (stored_then c.number-2.ensures c.byte-2.ensures)))
