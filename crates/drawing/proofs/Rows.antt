-- The table of drawing, row by row: which facts make an answer the table's. Assumes nothing.
--
--   view_refused, record_refused, ends_refused   19, 3 and 4
--   goes_on                                      past these, by the offsets alone
--   offset_refused, offset_shown                 20, and the edge
use mathlib.Core.Path.{◌≡◌, refl, sym, ap, ◌∙◌}
use mathlib.Core.Logic.{inl, inr}
use mathlib.Core.Bool.{Bool, true, false, true≢false}
use Prim.Native.Nat.{ℕ}
use lib.IntN.{ℤ, nat_abs, ◌-ℤ◌}
use Rattle.meaning.specs.Numbers.{pick}
use Rattle.meaning.specs.Answers.{Answer, accepted, out_of_range, from_equals_to, view_out_of_range, offset_too_large}
use Rattle.meaning.specs.Drawn.{view_in_range, record_in_range, is_level, all_drawn}
use Rattle.basic_laws.specs.Tables.{not_given}
use Rattle.drawing.specs.Drawing.{answer_of, refuses, ExactFloats, ByOffsets, Drawing}
use Rattle.drawing.specs.declared.Floats.{Floats}
use Rattle.drawing.specs.declared.Drawn.{Drawn}
use Rattle.drawing.specs.declared.Drawn.TheVariants.{Level, Upright, Refused}

-- a row whose test was passed says nothing
passed : {b : Bool} (a : Answer) → b ≡ true → (s : Drawn) → refuses (b ≡ false) a s → ⊥
passed a h s = not_given a (λ e. true≢false (sym h ∙ e)) (answer_of s)

module _ (ox oy zoom kind place from to : ℤ) where
  pub view_refused : view_in_range ox oy zoom ≡ false → Drawing ox oy zoom kind place from to (Refused 19)
  unfolding Drawing
  view_refused v = inl (v, refl)

  pub record_refused : view_in_range ox oy zoom ≡ true → record_in_range kind place from to ≡ false → Drawing ox oy zoom kind place from to (Refused 3)
  unfolding Drawing
  record_refused v k = inr (passed view_out_of_range v, inl (k, refl))

  pub ends_refused : view_in_range ox oy zoom ≡ true → record_in_range kind place from to ≡ true → from ≡ to → Drawing ox oy zoom kind place from to (Refused 4)
  unfolding Drawing
  ends_refused v k e = inr (passed view_out_of_range v, inr (passed (out_of_range 0) k, inl (e, refl)))

  pub goes_on : (level : Bool) (r : Drawn)
      → view_in_range ox oy zoom ≡ true → record_in_range kind place from to ≡ true → (from ≡ to → ⊥) → is_level kind ≡ level
      → ByOffsets level (place -ℤ pick level oy ox) (from -ℤ pick level ox oy) (to -ℤ pick level ox oy) (nat_abs zoom) r
      → Drawing ox oy zoom kind place from to r
  unfolding Drawing ByOffsets
  goes_on level r v k e l o =
      inr (passed view_out_of_range v, inr (passed (out_of_range 0) k, inr (λ s. not_given (from_equals_to 0) e (answer_of s), rw l o)))

accepts : (level : Bool) (e : Floats) → answer_of (pick level (Level e) (Upright e)) ≡ accepted 0
accepts true e = refl
accepts false e = refl

module _ (level : Bool) (dp df dt : ℤ) (z : ℕ) where
  pub offset_refused : all_drawn dp df dt ≡ false → ByOffsets level dp df dt z (Refused 20)
  unfolding ByOffsets
  offset_refused h = inl (h, refl)

  pub offset_shown : (r : Drawn) (e : Floats) → all_drawn dp df dt ≡ true → r ≡ pick level (Level e) (Upright e) → ExactFloats dp df dt z e → ByOffsets level dp df dt z r
  unfolding ByOffsets
  offset_shown r e h i x =
      inr (passed offset_too_large h, record { accepts = ap answer_of i ∙ accepts level e; floats = e; edge = i; exact = x })
