-- `Record::in_steps` meets its contract: a sound record's layer is at most 7, and its coordinates are in range. Assumes nothing.
use borrow.Author.Rules.{rules}
use native.Mathlib.Omega.{arith}
use lib.Dec.{T}
use lib.IntN.{ℤ, pos, negsuc}
use lib.Signed.{non_neg, le_z}
use mir.Syntax.{w32}
use mir.Val.{to_z, of_z}
use mir.ValLaws.{to_z-of_z}
use Rattle.std.proofs.Common.{◌≡◌}
use Rattle.std.proofs.lemmas.Bool.{false≢true}
use mathlib.Core.Bool.{true}
use Rattle.basic_laws.specs.Sound.{sound_parts, layer_low}
use Rattle.edge.proofs.Record.in_steps.Goals as goal

natural_layer : (z : ℤ) → le_z (pos 0) z ≡ true → T (non_neg z)
natural_layer (pos n) h = tt
natural_layer (negsuc n) h = absurd (false≢true h)

pub overflow_cast-result : goal.overflow_cast-result
overflow_cast-result c =
    let P = sound_parts _ _ _ _ _ _ c.requires in
    let l = layer_low c.args.self.layer 7 P.natural P.low in
    let z : to_z w32 (of_z w32 c.args.self.layer) ≡ c.args.self.layer = search (rules, to_z-of_z) in
    rw z (natural_layer c.args.self.layer P.natural, record { fits = omega (arith, l) })

pub lifted-requires : goal.lifted-requires
lifted-requires c = let P = sound_parts _ _ _ _ _ _ c.requires in search (rules, to_z-of_z, P.y_in)

pub lifted-requires-2 : goal.lifted-requires-2
lifted-requires-2 c = let P = sound_parts _ _ _ _ _ _ c.requires in search (rules, to_z-of_z, P.from_in)

pub lifted-requires-3 : goal.lifted-requires-3
lifted-requires-3 c = let P = sound_parts _ _ _ _ _ _ c.requires in search (rules, to_z-of_z, P.to_in)

pub returns-clause-low : goal.returns-clause-low
returns-clause-low c =
    let P = sound_parts _ _ _ _ _ _ c.requires in
    let l = layer_low c.args.self.layer 7 P.natural P.low in search (rules, to_z-of_z, l)
