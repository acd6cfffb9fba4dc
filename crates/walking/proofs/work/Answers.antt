-- `walking::work` meets its contract. Assumes nothing.
use Rattle.std.proofs.Common.{refl, arith}
use Rattle.std.proofs.lemmas.Result.{err_from_is_err_and}
use Rattle.answers.specs.declared.Refusal.TheVariants.{NotClosed}
use Rattle.front.specs.RankLaws.{balanced_says, unbalanced_says}
use Rattle.walking.specs.OneWalk.{stopped}
use Rattle.walking.specs.WalkLaws.{open_call, text_stopped, rank_ready, still_fresh, call_ready, sweep_ready, sweep_told}
use Rattle.walking.proofs.work.Goals as goal

pub rank-requires : goal.rank-requires
rank-requires c = rank_ready c.requires

pub returns-in_err-nx-clause-walked : goal.returns-in_err-nx-clause-walked
returns-in_err-nx-clause-walked c =
    let o = unbalanced_says _ c.in_err-nx.ensures.ranked refl in
    let p = err_from_is_err_and c.from_residual.result c.from_residual.ensures.1 in
    rw (p.1, p.2) (stopped c.args.edges.now c.args.text.now c.args.out.now NotClosed (open_call c.args.edges.now c.args.text.now c.requires.judged o.not_closed))

pub returns-in_err-judge-clause-walked : goal.returns-in_err-judge-clause-walked
returns-in_err-judge-clause-walked c =
    let b = balanced_says _ c.in_ok-nx.ensures.ranked refl in
    let p = err_from_is_err_and c.from_residual-in_err-judge.result c.from_residual-in_err-judge.ensures.1 in
    rw (p.1, p.2) (text_stopped c.args.edges.now c.args.text.now c.requires.judged c.args.out.now b.closed _ c.in_err-judge.ensures)

pub slice_bounds-sweep-end : goal.slice_bounds-sweep-end
slice_bounds-sweep-end c =
    let b = balanced_says _ c.in_ok-nx.ensures.ranked refl in
    omega (arith, b.ranks.within, c.requires.fresh.counters.long)

pub slice_bounds-sweep-end-4 : goal.slice_bounds-sweep-end-4
slice_bounds-sweep-end-4 c =
    let b = balanced_says _ c.in_ok-nx.ensures.ranked refl in
    b.ranks.ranked.within

pub sweep-found-requires : goal.sweep-found-requires
sweep-found-requires c =
    let b = balanced_says _ c.in_ok-nx.ensures.ranked refl in
    let K = call_ready c.requires b c.rank.ensures.long_ends.0 c.rank.ensures.long_ends.1 c.in_ok-judge.ensures c.table-truth.ensures in
    sweep_ready K (still_fresh c.requires.fresh b.still) _ _ (omega (arith, c.rank.ensures.long_edges.1, c.requires.as_ys, c.requires.strips, c.requires.rows_few)) (omega (arith, c.rank.ensures.long_edges.0, c.rank.ensures.long_edges.1, c.requires.as_layers, c.requires.as_ys)) (omega (arith, c.rank.ensures.long_edges.1, c.rank.auto.ws, c.requires.as_ys, c.requires.as_words)) (omega (arith, c.rank.ensures.long_edges.1, c.rank.auto.room, c.requires.as_ys, c.requires.as_room))

pub returns-clause-walked : goal.returns-clause-walked
returns-clause-walked c =
    let b = balanced_says _ c.in_ok-nx.ensures.ranked refl in
    let K = call_ready c.requires b c.rank.ensures.long_ends.0 c.rank.ensures.long_ends.1 c.in_ok-judge.ensures c.table-truth.ensures in
    sweep_told K c.sweep-found.ensures.swept (omega (arith, c.sweep-found.type_inv))
