-- `ranking::ranks_of` meets its contract. Assumes nothing.
use mathlib.Core.Path.{refl}
use Prim.Native.Nat.{◌+◌, ◌≤◌}
use lib.ListN.{length, set}
use lib.Seq.{get_or-set_same}
use Rattle.ranking.proofs.Few.{few_words}
use Rattle.ranking.proofs.Walk.{is_new, wide_set, start, step, done}
use borrow.Author.Rules.{rules}
use Rattle.ranking.proofs.ranks_of.Goals as goal

pub loop-w-init : goal.loop-w-init
loop-w-init c =
    let ws = c.args.ws.now in
    let vs = c.args.values.now in
    let first = c.value-last.result in
    start c.args.base ws (set vs 0 first) c.args.ranks.now (wide_set ws vs first c.requires.ws_len_bound) c.requires.rankable first (search rules) (search rules) (get_or-set_same vs 0 first 0 (search rules))

pub overflow_cast-ranks : goal.overflow_cast-ranks
overflow_cast-ranks c =
    let few : length c.args.ws.now ≤ 8192 = few_words _ _ _ c.requires.rankable in
    search rules

pub loop-w-preserved : goal.loop-w-preserved
loop-w-preserved c =
    let ws = c.args.ws.now in
    let vs = c.args.values.now in
    let first = c.value-last.result in
    let v = c.value-v.result in
    let d = c.from-k.result in
    step c.args.base ws (set vs 0 first) c.args.ranks.now (wide_set ws vs first c.requires.ws_len_bound) c.requires.rankable c.loop-w.values c.loop-w.ranks c.loop-w.last c.loop-w.k c.loop-w.w-index c.loop-w.invariant c.loop-w-test.true v d c.value-v.ensures (is_new c.loop-w.last v d c.from-k.ensures) c.place.result c.place.ensures.0 (c.loop-w.k + d) refl

pub returns : goal.returns
returns c =
    let ws = c.args.ws.now in
    let vs = c.args.values.now in
    let first = c.value-last.result in
    done c.args.base ws (set vs 0 first) c.args.ranks.now (wide_set ws vs first c.requires.ws_len_bound) c.requires.rankable c.loop-w.values c.loop-w.ranks c.loop-w.last c.loop-w.k c.loop-w.w-index c.loop-w.invariant (search rules) (search rules)
