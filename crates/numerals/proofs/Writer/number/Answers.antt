use mathlib.Core.Path.{ap, ◌∙◌}
use native.Mathlib.Omega.{arith}
use lib.ListN.{length}
use Rattle.numerals.specs.Stored.{stored_as}
use Rattle.numerals.proofs.Digits.{same_text}
use Rattle.numerals.proofs.Writer.number.Goals as goal

pub word-requires : goal.word-requires
word-requires c = omega (arith, ap length (c.as_bytes.ensures.value ∙ c.format.ensures.text ∙ same_text c.args.n c.ranges.n.fits))

pub returns : goal.returns
returns c = stored_as (c.as_bytes.ensures.value ∙ c.format.ensures.text ∙ same_text c.args.n c.ranges.n.fits) c.word.ensures
