-- `edges::judge` meets its contract: the records before k are good, and each return gives the row that then applies. Assumes nothing.
use mathlib.Core.Path.{refl, sym, ap, ◌∙◌}
use native.Mathlib.Omega.{arith}
use Rattle.meaning.specs.Numbers.{limit}
use Rattle.meaning.specs.Edges.{sound_edge, flat}
use Rattle.edges.specs.Refusals.{fine_start, fine_more, odd_answer, many_answer, range_answer, equal_answer, none_answer}
use borrow.Author.Rules.{rules}
use Rattle.edges.proofs.judge.Goals as goal

pub returns-then-edges-ne0 : goal.returns-then-edges-ne0
returns-then-edges-ne0 c = odd_answer 7 limit c.args.edges.now (λ e. omega (arith, c.if-edges-ne0.true))

pub returns-then-n-gt-MOST : goal.returns-then-n-gt-MOST
returns-then-n-gt-MOST c = many_answer 7 limit c.args.edges.now c.if-edges-ne0.false (search rules)

pub loop-k-init : goal.loop-k-init
loop-k-init c = (refl, fine_start 7 limit c.args.edges.now c.if-edges-ne0.false (search rules))

pub returns-then-not-is_sound : goal.returns-then-not-is_sound
returns-then-not-is_sound c =
    let h = c.loop-k in
    range_answer 7 limit c.args.edges.now h.k h.invariant.1 (omega arith) (ap (sound_edge 7 limit) (sym c.at-record.ensures) ∙ sym c.is_sound.ensures ∙ c.if-not-is_sound.true)

pub returns-then-is_flat : goal.returns-then-is_flat
returns-then-is_flat c =
    let h = c.loop-k in
    equal_answer 7 limit c.args.edges.now h.k h.invariant.1 (omega arith) (ap (sound_edge 7 limit) (sym c.at-record.ensures) ∙ sym c.is_sound.ensures ∙ c.if-not-is_sound.false) (ap flat (sym c.at-record.ensures) ∙ sym c.is_flat.ensures ∙ c.if-is_flat.true)

pub loop-k-preserved : goal.loop-k-preserved
loop-k-preserved c =
    let h = c.loop-k in
    (h.invariant.0, fine_more 7 limit c.args.edges.now h.k h.invariant.1 (omega arith) (ap (sound_edge 7 limit) (sym c.at-record.ensures) ∙ sym c.is_sound.ensures ∙ c.if-not-is_sound.false) (ap flat (sym c.at-record.ensures) ∙ sym c.is_flat.ensures ∙ c.if-is_flat.false))

pub returns : goal.returns
returns c =
    let h = c.loop-k in
    none_answer 7 limit c.args.edges.now h.k h.invariant.1 (omega arith)
