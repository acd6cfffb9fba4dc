-- `drawing::draw` meets its contract. What each test showed is a lemma, and the laws of the table's rows give each answer. Assumes nothing.
use borrow.Author.Rules.{rules}
use Rattle.std.proofs.Common.{◌≡◌, refl, sym, ap, ◌∙◌, eqb, eq-eqb, ne_eqb, arith}
use lib.IntN.{pos}
use mir.Syntax.{w32, w64}
use mir.Val.{to_z, of_z}
use mir.ValLaws.{to_z-of_z}
use Rattle.basic_laws.specs.Signed.{eq_bits}
use Rattle.meaning.specs.Numbers.{pick}
use Rattle.meaning.specs.Drawn.{is_level, place_offset, end_offset}
use Rattle.drawing.proofs.Tests.{view_zoom}
use Rattle.drawing.proofs.Rows.{view_refused, record_refused, ends_refused, goes_on}
use Rattle.drawing.proofs.draw.Goals.{then-level, else-level}
use Rattle.drawing.proofs.draw.Goals as goal

pub returns-then-not-in_range : goal.returns-then-not-in_range
returns-then-not-in_range c = view_refused _ _ _ _ _ _ _ (sym c.in_range.ensures ∙ c.if-not-in_range.true)

pub returns-then-not-in_range-2 : goal.returns-then-not-in_range-2
returns-then-not-in_range-2 c =
    record_refused _ _ _ _ _ _ _ (sym c.in_range.ensures ∙ c.if-not-in_range.false) (sym c.in_range-2.ensures ∙ c.if-not-in_range-2.true)

pub returns-then-given : goal.returns-then-given
returns-then-given c =
    let e : c.args.given.from ≡ c.args.given.to = search (rules, to_z-of_z, ap (to_z w32) c.if-given.true) in
    ends_refused _ _ _ _ _ _ _ (sym c.in_range.ensures ∙ c.if-not-in_range.false) (sym c.in_range-2.ensures ∙ c.if-not-in_range-2.false) e

pub overflow_cast-z : goal.overflow_cast-z
overflow_cast-z c =
    let h = view_zoom _ _ _ (sym c.in_range.ensures ∙ c.if-not-in_range.false) in search (rules, to_z-of_z, h.0, h.1)

pub by_offsets-requires : goal.by_offsets-requires
by_offsets-requires c =
    let h = view_zoom _ _ _ (sym c.in_range.ensures ∙ c.if-not-in_range.false) in search (rules, to_z-of_z, h.1)

pub returns : goal.returns
returns c =
    let a = c.args in
    let level : eqb (of_z w32 a.given.kind) 0 ≡ is_level a.given.kind = eq_bits a.given.kind (pos 0) (omega arith) (omega arith) in
    let origins : (c.if-level.across.0 ≡ pick (is_level a.given.kind) a.view.oy a.view.ox) × (c.if-level.across.1 ≡ pick (is_level a.given.kind) a.view.ox a.view.oy) =
    elim c.if-level.branch [
      | then-level w ↦ rw (sym level ∙ eq-eqb _ _ w.if-level.true) (search (rules, to_z-of_z, ap (λ x. x.0) w.across-is), search (rules, to_z-of_z, ap (λ x. x.1) w.across-is))
      | else-level w ↦ rw (sym level ∙ ne_eqb _ _ w.if-level.false) (search (rules, to_z-of_z, ap (λ x. x.0) w.across-is), search (rules, to_z-of_z, ap (λ x. x.1) w.across-is))
    ] in
    let p : to_z w64 (of_z w64 c.offset.result) ≡ place_offset a.view.ox a.view.oy a.given.kind a.given.place = search (rules, to_z-of_z, origins.0) in
    let f : to_z w64 (of_z w64 c.offset-2.result) ≡ end_offset a.view.ox a.view.oy a.given.kind a.given.from = search (rules, to_z-of_z, origins.1) in
    let t : to_z w64 (of_z w64 c.offset-3.result) ≡ end_offset a.view.ox a.view.oy a.given.kind a.given.to = search (rules, to_z-of_z, origins.1) in
    let z : to_z w32 (of_z w32 a.view.zoom) ≡ a.view.zoom = search (rules, to_z-of_z) in
    goes_on _ _ _ _ _ _ _ (is_level a.given.kind) _
    (sym c.in_range.ensures ∙ c.if-not-in_range.false) (sym c.in_range-2.ensures ∙ c.if-not-in_range-2.false)
    (λ e. c.if-given.false (ap (of_z w32) e)) refl
    (rw (level, p, f, t, z) at c.by_offsets.ensures)
