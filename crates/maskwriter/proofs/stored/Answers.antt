-- `maskwriter::stored` meets its contract. Assumes nothing.
use Rattle.std.proofs.Common.{◌≡◌, ◌∙◌, sym, ℕ, ◌≤◌}
use Rattle.std.proofs.iter.Serving.{serving}
use Rattle.std.specs.Prelude.{Some}
use Rattle.rings.specs.State.{greatest, sane_before}
use Rattle.ringwalk.specs.Made.{follows_sane, follows_most}
use Rattle.maskwriter.proofs.stored.Goals as goal

pub map_or-requires : goal.map_or-requires
map_or-requires c =
    let k : (p : ℕ) → c.before-2.result ≡ Some p → p ≤ greatest = λ p e. sane_before _ _ p (follows_sane _ _ c.requires) (sym c.before-2.ensures ∙ e) in
    let m : c.args.v ≤ greatest = follows_most _ _ c.requires in
    grind (serving, k, m)
