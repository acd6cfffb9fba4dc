use mathlib.Core.Path.{sym}
use Rattle.numerals.specs.Stored.{stored_then, stored_as}
use Rattle.printed_laws.specs.Lines.{area_words}
use Rattle.printed.proofs.area_line.Goals as goal

pub returns : goal.returns
returns c = stored_as (sym (area_words _)) (stored_then c.word.ensures (stored_then c.number.ensures c.byte.ensures))
