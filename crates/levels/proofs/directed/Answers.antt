-- `levels::directed` meets its contract. Assumes nothing.
use mathlib.Core.Path.{◌∙◌}
use Rattle.levels.proofs.LineLaws.{word_west, word_east}
use Rattle.levels.proofs.directed.Goals as goal

pub returns-then-s : goal.returns-then-s
returns-then-s c =
    let a = c.args in
    c.word.ensures ∙ word_west a.y a.s.from a.s.to a.s.inside c.if-s.true

pub returns : goal.returns
returns c =
    let a = c.args in
    c.word-2.ensures ∙ word_east a.y a.s.from a.s.to a.s.inside c.if-s.false
