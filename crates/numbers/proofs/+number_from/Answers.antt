-- `numbers::number_from` meets its contract, group by group; the groups left fall. Assumes nothing.
use native.Mathlib.Omega.{arith}
use mathlib.Core.Path.{sym, ap, ◌∙◌}
use borrow.Author.Tests.{ltb-false}
use Rattle.numbers.specs.Reading.{joined}
use Rattle.numbers.proofs.Groups.{read_none, read_end, read_one, read_more, join_refused, join_zero, join_value, value_below}
use Rattle.numbers.proofs.+number_from.Goals as goal

pub returns-then-groups-eq0 : goal.returns-then-groups-eq0
returns-then-groups-eq0 t c = let a = c.args in read_none a.file.now a.start a.at a.groups c.if-groups-eq0.true

pub returns-in_default : goal.returns-in_default
returns-in_default t c = let a = c.args in read_end a.file.now a.start a.at a.groups c.if-groups-eq0.false (ltb-false _ _ (sym c.in_default.ensures.lookup.0))

pub returns-then-b-lt128 : goal.returns-then-b-lt128
returns-then-b-lt128 t c =
    let a = c.args in
    let h = c.in-Some.ensures.lookup.3 in
    read_one a.file.now a.start a.at a.groups _ (c.from-b.ensures ∙ h.1 0) h.0 c.if-groups-eq0.false c.if-b-lt128.true

pub returns-in_default-rest : goal.returns-in_default-rest
returns-in_default-rest t c =
    let a = c.args in
    let h = c.in-Some.ensures.lookup.3 in
    join_refused _ a.start _ _ c.in_default-rest.is ∙ ap (joined _ a.start) c.number_from-rest.ensures ∙ read_more a.file.now a.start a.at a.groups _ (c.from-b.ensures ∙ h.1 0) h.0 c.if-groups-eq0.false c.if-b-lt128.false

pub returns-then-read-eq0 : goal.returns-then-read-eq0
returns-then-read-eq0 t c =
    let a = c.args in
    let h = c.in-Some.ensures.lookup.3 in
    join_zero _ a.start _ _ c.in-Ok.is c.if-read-eq0.true ∙ ap (joined _ a.start) c.number_from-rest.ensures ∙ read_more a.file.now a.start a.at a.groups _ (c.from-b.ensures ∙ h.1 0) h.0 c.if-groups-eq0.false c.if-b-lt128.false

pub overflow_mul-result : goal.overflow_mul-result
overflow_mul-result t c = omega (arith, value_below _ _ _ _ _ _ _ (omega arith) c.number_from-rest.ensures c.in-Ok.is)

pub overflow_add-result-2 : goal.overflow_add-result-2
overflow_add-result-2 t c = omega (arith, value_below _ _ _ _ _ _ _ (omega arith) c.number_from-rest.ensures c.in-Ok.is)

pub returns : goal.returns
returns t c =
    let a = c.args in
    let h = c.in-Some.ensures.lookup.3 in
    join_value _ a.start _ _ c.in-Ok.is c.if-read-eq0.false ∙ ap (joined _ a.start) c.number_from-rest.ensures ∙ read_more a.file.now a.start a.at a.groups _ (c.from-b.ensures ∙ h.1 0) h.0 c.if-groups-eq0.false c.if-b-lt128.false
