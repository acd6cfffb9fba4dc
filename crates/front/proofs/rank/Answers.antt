-- `front::rank` meets its contract. Assumes nothing.
use native.Mathlib.Omega.{arith}
use Rattle.std.proofs.lemmas.Result.{err_from_is_err_and}
use Rattle.front.specs.RankLaws.{rank_test, balanced, unbalanced}
use Rattle.front.proofs.rank.Goals as goal

pub test-requires : goal.test-requires
test-requires c =
    rank_test c.requires c.lift.ensures c.ranked-nx.ensures (omega arith) (omega arith) (omega arith)

pub returns-in_err-test-clause-ranked : goal.returns-in_err-test-clause-ranked
returns-in_err-test-clause-ranked c =
    let p = err_from_is_err_and c.from_residual.result c.from_residual.ensures.1 in
    rw (p.1, p.2) (unbalanced c.requires c.lift.ensures c.ranked-nx.ensures (omega arith) (omega arith) (omega arith) c.test.result c.test.ensures _ c.in_err-test.was)

pub returns-clause-ranked : goal.returns-clause-ranked
returns-clause-ranked c =
    balanced c.requires c.lift.ensures c.ranked-nx.ensures (omega arith) (omega arith) (omega arith) c.test.result c.test.ensures c.in_ok-test.was
