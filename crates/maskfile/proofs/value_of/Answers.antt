-- `maskfile::value_of` meets its contract. Assumes nothing.
use Rattle.std.proofs.Common.{◌≡◌, ◌∙◌, sym, ℕ, ◌≤◌, ◌<◌}
use Rattle.std.proofs.iter.Serving.{serving}
use Rattle.std.specs.Prelude.{Some}
use Rattle.meaning.specs.MaskFile.{most, five}
use Rattle.rings.specs.State.{greatest, sane_before}
use Rattle.maskfile.proofs.value_of.Goals as goal

pub map_or-requires : goal.map_or-requires
map_or-requires c =
    let k : (p : ℕ) → c.before-2.result ≡ Some p → p ≤ greatest = λ p e. sane_before _ _ p c.requires.0 (sym c.before-2.ensures ∙ e) in
    let m : c.args.n < most five = c.requires.1 in
    grind (serving, k, m)
