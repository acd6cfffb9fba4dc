-- The bytes of a mask file are made number by number. Assumes nothing.
--
--   stored_fits   a due number with no fault is stored in five groups
--   file_laws     each due number adds its groups, and those of good rings are their file
--   file_starts   the edition stands before the first ring
use mathlib.Core.Path.{◌≡◌, refl, ap₂, subst⁻¹, ◌∙◌}
use mathlib.Core.List.{List}
use Prim.Native.Nat.{ℕ, ◌+◌, ◌<◌}
use native.Mathlib.Omega.{arith}
use lib.IntN.{ℤ}
use lib.ListN.{length}
use lib.Seq.{sets}
use Rattle.meaning.specs.Numbers.{limit}
use Rattle.meaning.specs.MaskFile.{spelt, most, five, bytes_of}
use Rattle.meaning.specs.Faults.{Begun, Begins, nothing, more, FileSpells}
use Rattle.ring_laws.specs.Groups.{spelt_most}
use Rattle.ring_laws.specs.Beginnings.{Fine, Good}
use Rattle.ring_laws.specs.Forms.{file_begins, spell_file}
use Rattle.ring_laws.specs.Calls.{holds}
use Rattle.rings.specs.declared.State.{State}
use Rattle.reading_laws.specs.StateOf.{state_of, keyed}
use Rattle.reading_laws.specs.Standing.{Natural}
use Rattle.ringwalk.specs.Made.{Follows, Starts, MadeLaws}
use Rattle.maskwriter.specs.Stored.{stored_of}
use Rattle.maskwriter.specs.Differences.{stored_means, means_stored}

keyed_fits : (b : Begun) (z : ℤ) → Good limit b → Natural b z → Fine limit b z → stored_of (state_of b) (keyed b z) < most five
keyed_fits b z g n f =
    let x = spell_file five limit holds b z g f in
    subst⁻¹ (λ (k : ℕ). k < most five) (means_stored b (stored_of (state_of b) (keyed b z)) x.1.0 z (stored_means b z g n f) x.1.1) x.1.2

pub stored_fits : (s : State) (v : ℕ) → Follows s v → stored_of s v < most five
stored_fits s v f = subst⁻¹ (λ (k : ℕ). k < most five) (ap₂ stored_of f.state f.value) (keyed_fits f.begun f.number f.good f.natural f.fine)

pub file_laws : MadeLaws (Begins limit (FileSpells five) (spelt five 1)) (λ s v. spelt five (stored_of s v)) (bytes_of five)
file_laws =
    record {
      more = λ b items z w g n f. more z (spelt five (stored_of (state_of b) (keyed b z))) w (stored_of (state_of b) (keyed b z), stored_means b z g n f, keyed_fits b z g n f, refl) f;
      whole = λ rs items g w. (file_begins five limit rs items w).1;
      few = λ s v. spelt_most five (stored_of s v);
    }

pub file_starts : (out : List ℕ) (n : ℕ) (after-out : List ℕ) → (n ≡ 0 + length (spelt five 1)) × (after-out ≡ sets out 0 (spelt five 1)) → Starts (Begins limit (FileSpells five) (spelt five 1)) out n after-out
file_starts out n after-out (e, w) = record { items = spelt five 1; begins = nothing; count = e ∙ omega arith; few = spelt_most five 1; wrote = w }
