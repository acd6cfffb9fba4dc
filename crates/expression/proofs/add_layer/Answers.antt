-- `expression::add_layer` meets its contract. The invariant: the entries below m are right. Assumes nothing.
use Rattle.std.proofs.Common.{arith, subst, sym, pow-add}
use Rattle.expression_laws.specs.Doubling.{Filled, filled_more, half_below, copied}
use Rattle.expression_laws.specs.Cover.{cover_of, Entry}
use Rattle.expression.proofs.add_layer.Goals as goal
use Rattle.expression.proofs.add_layer.Goals.{then-read, else-read}

pub loop-m-init : goal.loop-m-init
loop-m-init c = let h = half_below _ c.requires.0 in subst (λ n. Filled c.args.text.now n c.args.truth.now) (omega arith) c.requires.1

pub loop-m-preserved : goal.loop-m-preserved
loop-m-preserved c =
    let l = c.loop-m in
    let p = c.requires in
    let h = half_below _ p.0 in
    let e : Entry c.args.text.now (cover_of l.m) c.if-read.truth = elim c.if-read.branch [
      | then-read w ↦ subst (Entry c.args.text.now (cover_of l.m)) (sym w.truth-is) w.value.ensures
      | else-read w ↦ subst (Entry c.args.text.now (cover_of l.m)) (sym w.truth-is) (copied _ _ _ l.m l.truth p.0 (omega arith) (omega arith) c.loop-m-test.true (c.stands-read.ensures.1 w.if-read.false) l.invariant)
    ] in
    filled_more _ l.m l.truth _ (omega arith) l.invariant e

pub returns : goal.returns
returns c =
    let h = half_below _ c.requires.0 in
    let d = pow-add 2 c.args.layer 1 in
    subst (λ n. Filled c.args.text.now n c.loop-m.truth) (omega arith) c.loop-m.invariant
