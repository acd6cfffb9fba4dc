-- `expression::judge` meets its contract: each return is a row of the table. Assumes nothing.
use Rattle.expression_laws.specs.Judging.{says_length, says_deep, says_outside, says_unbounded, says_accepted}
use Rattle.std.proofs.Common.{arith}
use Rattle.std.proofs.lemmas.Bool.Decides.{nat_tests}
use Rattle.expression.proofs.Reading.{of_refused, at_nothing}
use Rattle.expression.proofs.judge.Goals as goal

pub returns-then-not-contains : goal.returns-then-not-contains
returns-then-not-contains c = says_length _ (grind (arith, nat_tests))

pub returns-then-too_deep : goal.returns-then-too_deep
returns-then-too_deep c = says_deep _ (grind (arith, nat_tests)) (grind (arith, nat_tests)) (c.too_deep.ensures.0 c.if-too_deep.true)

pub returns-in_default : goal.returns-in_default
returns-in_default c = says_outside _ (grind (arith, nat_tests)) (grind (arith, nat_tests)) (c.too_deep.ensures.1 c.if-too_deep.false) (of_refused _ _ c.whole-r.ensures c.in_default.is)

pub returns-then-unbounded : goal.returns-then-unbounded
returns-then-unbounded c = says_unbounded _ (grind (arith, nat_tests)) (grind (arith, nat_tests)) (c.too_deep.ensures.1 c.if-too_deep.false) (at_nothing _ c.whole-r.ensures c.in-Some.is c.if-unbounded.true)

pub returns : goal.returns
returns c = says_accepted _ (grind (arith, nat_tests)) (grind (arith, nat_tests)) (c.too_deep.ensures.1 c.if-too_deep.false) (at_nothing _ c.whole-r.ensures c.in-Some.is c.if-unbounded.false)
