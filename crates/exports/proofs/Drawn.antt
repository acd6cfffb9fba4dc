-- The promise of `laukavesp_draw`. Assumes nothing.
--
--   one_shown      structs that meet it are equal
--   shows_table    what drawing promises of its answer, carried over to the struct
--   one_table      structs that meet the table are equal
use mathlib.Core.Path.{◌≡◌, refl, sym, ap, ◌∙◌, subst}
use mathlib.Core.Logic.{inl, inr}
use mathlib.Core.Bool.{Bool, true, false}
use mathlib.Core.List.{List, [], ◌∷◌}
use Prim.Native.Nat.{ℕ, suc}
use native.Mathlib.Omega.{arith}
use lib.IntN.{ℤ, nat_abs}
use Rattle.meaning.specs.Numbers.{pick}
use Rattle.meaning.specs.Answers.{Answer, answer, Row, given, First}
use Rattle.meaning.specs.Drawn.{view_in_range, record_in_range, is_level, place_offset, end_offset, all_drawn}
use Rattle.basic_laws.specs.Tables.{Single, single_given, one_answer, not_given}
use Rattle.drawing.specs.Drawing.{answer_of, refuses, ExactFloats, Shown, Drawing}
use Rattle.drawing.specs.declared.Floats.{Floats}
use Rattle.drawing.specs.declared.Drawn.{Drawn}
use Rattle.drawing.specs.declared.Drawn.TheVariants.{Level, Upright, Refused}
use Rattle.drawing.proofs.Exact.{exact_unique}
use Rattle.drawing.proofs.Unique.{one_drawing}
use Rattle.exports.specs.declared.DrawnNumbers.{DrawnNumbers}
use Rattle.exports.specs.Shown.{refusal, shown, Shows, Carries, table_rows, Table}

pub one_shown : (ox oy zoom kind place from to : ℤ) (r s : DrawnNumbers)
    → Shows (Drawing ox oy zoom kind place from to) r → Shows (Drawing ox oy zoom kind place from to) s → r ≡ s
one_shown ox oy zoom kind place from to r s x y =
    x.is ∙ ap shown (one_drawing ox oy zoom kind place from to x.drawn y.drawn x.answers y.answers) ∙ sym y.is

-- ---- the table

-- an answer with a number of the table other than 0 is a refusal, and so is its struct
refused : (d : Drawn) (n : ℕ) → answer_of d ≡ answer (suc n) 0 → shown d ≡ refusal (suc n)
refused (Level e) n h = let z = ap (λ (a : Answer). a.number) h in absurd (omega arith)
refused (Upright e) n h = let z = ap (λ (a : Answer). a.number) h in absurd (omega arith)
refused (Refused m) n h = ap refusal (ap (λ (a : Answer). a.number) h)

-- rows of facts with their refusals' numbers, less one: as rows of drawing's answers, and as rows of structs
abbrev as_answers : List (Type 0 × ℕ) → List (Row Drawn)
as_answers [] = []
as_answers (f ∷ fs) = refuses f.0 (answer (suc f.1) 0) ∷ as_answers fs

abbrev as_structs : List (Type 0 × ℕ) → List (Row DrawnNumbers)
as_structs [] = []
as_structs (f ∷ fs) = given f.0 (refusal (suc f.1)) ∷ as_structs fs

table_carried : (fs : List (Type 0 × ℕ)) (Last : Row Drawn) (Next : Row DrawnNumbers) (d : Drawn)
    → (Last d → Next (shown d)) → First (as_answers fs) Last d → First (as_structs fs) Next (shown d)
table_carried [] Last Next d h x = h x
table_carried (f ∷ fs) Last Next d h (inl x) = inl (x.0, refused d f.1 x.1)
table_carried (f ∷ fs) Last Next d h (inr x) =
    inr (not_given (refusal (suc f.1)) (λ y. x.0 (Refused (suc f.1)) (y, refl)), table_carried fs Last Next d h x.1)

abbrev facts : ℤ → ℤ → ℤ → ℤ → ℤ → ℤ → ℤ → List (Type 0 × ℕ)
facts ox oy zoom kind place from to =
    (view_in_range ox oy zoom ≡ false, 18)
    ∷ (record_in_range kind place from to ≡ false, 2)
    ∷ (from ≡ to, 3)
    ∷ (all_drawn (place_offset ox oy kind place) (end_offset ox oy kind from) (end_offset ox oy kind to) ≡ false, 19)
    ∷ []

carried : (level : Bool) (dp df dt : ℤ) (z : ℕ) (d : Drawn) → Shown level dp df dt z d → Carries level dp df dt z (shown d)
carried level dp df dt z d x = subst (Carries level dp df dt z) (sym (ap shown x.edge)) (go level x.floats x.exact)
  where
    go : (level : Bool) (e : Floats) → ExactFloats dp df dt z e → Carries level dp df dt z (shown (pick level (Level e) (Upright e)))
    go true e y = record { accepts = refl; turned = refl; place_exact = y.place_exact; from_exact = y.from_exact; to_exact = y.to_exact }
    go false e y = record { accepts = refl; turned = refl; place_exact = y.place_exact; from_exact = y.from_exact; to_exact = y.to_exact }

pub shows_table : (ox oy zoom kind place from to : ℤ) (r : DrawnNumbers) → Shows (Drawing ox oy zoom kind place from to) r → Table ox oy zoom kind place from to r
unfolding Drawing Table
shows_table ox oy zoom kind place from to r x =
    let dp = place_offset ox oy kind place in
    let df = end_offset ox oy kind from in
    let dt = end_offset ox oy kind to in
    let z = nat_abs zoom in
    let level = is_level kind in
    subst (Table ox oy zoom kind place from to) (sym x.is)
    (table_carried (facts ox oy zoom kind place from to) (Shown level dp df dt z) (Carries level dp df dt z) x.drawn (carried level dp df dt z x.drawn) x.answers)

single_carries : (level : Bool) (dp df dt : ℤ) (z : ℕ) → Single (Carries level dp df dt z)
single_carries level dp df dt z r s x y =
    let n = x.accepts ∙ sym y.accepts in
    let u = x.turned ∙ sym y.turned in
    let p = exact_unique dp z r.place s.place x.place_exact y.place_exact in
    let f = exact_unique df z r.from s.from x.from_exact y.from_exact in
    let t = exact_unique dt z r.to s.to x.to_exact y.to_exact in
    λ i. record { number = n i; upright = u i; place = p i; from = f i; to = t i }

pub one_table : (ox oy zoom kind place from to : ℤ) → Single (Table ox oy zoom kind place from to)
unfolding Table
one_table ox oy zoom kind place from to =
    let dp = place_offset ox oy kind place in
    let df = end_offset ox oy kind from in
    let dt = end_offset ox oy kind to in
    one_answer (table_rows ox oy zoom kind place from to) (Carries (is_level kind) dp df dt (nat_abs zoom)) (
      single_given (view_in_range ox oy zoom ≡ false) (refusal 19),
      (single_given (record_in_range kind place from to ≡ false) (refusal 3), (single_given (from ≡ to) (refusal 4), (single_given (all_drawn dp df dt ≡ false) (refusal 20), tt))),
    )
    (single_carries (is_level kind) dp df dt (nat_abs zoom))
