-- `edge::lifted` meets its contract: a coordinate moved up by 2^30 is its key, less 2^30. Assumes nothing.
use Rattle.std.proofs.Common.{ap, ◌∙◌}
use mir.ValLaws.{to_z-of_z}
use mir.Syntax.{w32}
use borrow.Author.Rules.{rules}
use Rattle.basic_laws.specs.Signed.{key_of}
use Rattle.edge.specs.Keys.{Keyed, coordinate_above, lift_is}
use Rattle.edge.proofs.lifted.Goals as goal

pub overflow_sub-result : goal.overflow_sub-result
overflow_sub-result c =
    let k : Keyed c.args.z c.key.result = record { is = c.key.ensures ∙ ap key_of (to_z-of_z w32 _ c.ranges.z); word = search rules } in
    coordinate_above _ _ k c.requires

pub returns : goal.returns
returns c =
    let k : Keyed c.args.z c.key.result = record { is = c.key.ensures ∙ ap key_of (to_z-of_z w32 _ c.ranges.z); word = search rules } in
    lift_is _ _ k c.requires
