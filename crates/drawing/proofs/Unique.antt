-- Answers of `draw` that meet its promise are equal: `one_drawing`. The promise is a table of rows, and each row says one answer. Assumes nothing.
use mathlib.Core.Path.{◌≡◌, sym, ap, ◌∙◌}
use mathlib.Core.Bool.{Bool, false}
use Prim.Native.Nat.{ℕ, suc}
use native.Mathlib.Omega.{arith}
use lib.IntN.{ℤ, nat_abs}
use Rattle.meaning.specs.Numbers.{pick}
use Rattle.meaning.specs.Answers.{Answer, answer}
use Rattle.meaning.specs.Drawn.{view_in_range, record_in_range, is_level, place_offset, end_offset, all_drawn}
use Rattle.basic_laws.specs.Tables.{Single, one_answer}
use Rattle.drawing.specs.Drawing.{answer_of, refuses, rows, ExactFloats, Shown, Drawing}
use Rattle.drawing.specs.declared.Floats.{Floats}
use Rattle.drawing.specs.declared.Drawn.{Drawn}
use Rattle.drawing.specs.declared.Drawn.TheVariants.{Level, Upright, Refused}
use Rattle.drawing.proofs.Exact.{exact_unique}

-- a number of the table other than 0 is a refusal's
refused : (r : Drawn) (n : ℕ) → answer_of r ≡ answer (suc n) 0 → r ≡ Refused (suc n)
refused (Level e) n h = let z = ap (λ (a : Answer). a.number) h in absurd (omega arith)
refused (Upright e) n h = let z = ap (λ (a : Answer). a.number) h in absurd (omega arith)
refused (Refused m) n h = ap Refused (ap (λ (a : Answer). a.number) h)

single_refuses : (fact : Type 0) (n : ℕ) → Single (refuses fact (answer (suc n) 0))
single_refuses fact n r s x y = refused r n x.1 ∙ sym (refused s n y.1)

one_floats : (dp df dt : ℤ) (z : ℕ) (e g : Floats) → ExactFloats dp df dt z e → ExactFloats dp df dt z g → e ≡ g
one_floats dp df dt z e g x y =
    let p = exact_unique dp z e.place g.place x.place_exact y.place_exact in
    let q = exact_unique df z e.from g.from x.from_exact y.from_exact in
    let r = exact_unique dt z e.to g.to x.to_exact y.to_exact in
    λ i. record { place = p i; from = q i; to = r i }

single_shown : (level : Bool) (dp df dt : ℤ) (z : ℕ) → Single (Shown level dp df dt z)
single_shown level dp df dt z r s x y =
    x.edge
    ∙ ap (λ (e : Floats). pick level (Level e) (Upright e)) (one_floats dp df dt z x.floats y.floats x.exact y.exact)
    ∙ sym y.edge

pub one_drawing : (ox oy zoom kind place from to : ℤ) (r s : Drawn) → Drawing ox oy zoom kind place from to r → Drawing ox oy zoom kind place from to s → r ≡ s
unfolding Drawing
one_drawing ox oy zoom kind place from to =
    let dp = place_offset ox oy kind place in
    let df = end_offset ox oy kind from in
    let dt = end_offset ox oy kind to in
    one_answer (rows ox oy zoom kind place from to) (Shown (is_level kind) dp df dt (nat_abs zoom)) (
      single_refuses (view_in_range ox oy zoom ≡ false) 18,
      (single_refuses (record_in_range kind place from to ≡ false) 2, (single_refuses (from ≡ to) 3, (single_refuses (all_drawn dp df dt ≡ false) 19, tt))),
    )
    (single_shown (is_level kind) dp df dt (nat_abs zoom))
