-- `lifting::lift` meets its contract: the columns have the first k edges. Assumes nothing.
use lib.ListN.{length-set}
use native.Mathlib.Omega.{arith}
use Rattle.meaning.specs.Numbers.{limit}
use Rattle.lifting.specs.Columns.{steps_long, record_ready, lifting_start, lifting_more, lifting_end}
use mathlib.Core.Path.{ap, ◌∙◌}
use lib.IntN.{nat_abs}
use Rattle.meaning.specs.Edges.{sound_edge}
use Rattle.basic_laws.specs.Steps.{lift}
use Rattle.basic_laws.specs.Fours.{edge_at, layer_of, y_of, from_of, to_of}
use borrow.Author.Rules.{rules}
use Rattle.lifting.proofs.lift.Goals as goal

pub loop-k-init : goal.loop-k-init
loop-k-init c =
    lifting_start limit c.args.edges.now c.requires.sound_list c.args.layers.now c.args.ys.now c.args.xs.now c.requires.layers_len.0 c.requires.layers_len.1 c.requires.layers_len.2

pub at-requires : goal.at-requires
at-requires c = (record_ready limit c.args.edges.now c.requires.sound_list c.loop-k.invariant (search rules)).0

pub in_steps-edge-requires : goal.in_steps-edge-requires
in_steps-edge-requires c =
    ap (sound_edge 7 limit) c.at.ensures ∙ (record_ready limit c.args.edges.now c.requires.sound_list c.loop-k.invariant (search rules)).1

pub bounds-xs-k-in-loop-k : goal.bounds-xs-k-in-loop-k
bounds-xs-k-in-loop-k c = simp length-set (omega arith)

pub loop-k-preserved : goal.loop-k-preserved
unfolding edge_at
loop-k-preserved c =
    let e = c.at.ensures in
    let i = c.in_steps-edge.ensures in
    lifting_more limit c.args.edges.now c.loop-k.invariant (search rules) _ _ _ _
    (i.layer ∙ ap (λ n. nat_abs (layer_of n)) e) (i.y ∙ ap (λ n. lift limit (y_of n)) e) (i.from ∙ ap (λ n. lift limit (from_of n)) e) (i.to ∙ ap (λ n. lift limit (to_of n)) e)

pub shape_of-layers : goal.shape_of-layers
shape_of-layers c = omega (arith, steps_long limit c.args.edges.now)

pub shape_of-ys : goal.shape_of-ys
shape_of-ys c = omega (arith, steps_long limit c.args.edges.now)

pub shape_of-xs : goal.shape_of-xs
shape_of-xs c = omega (arith, steps_long limit c.args.edges.now)

pub returns : goal.returns
returns c = lifting_end limit c.args.edges.now c.loop-k.invariant (search rules)
