-- What the program prints, part by part: over an edge list, over a mask file, and of the whole input. Assumes nothing.
--
--   OfEdges ns text out          out is the text of the answer to an expression over an edge list
--   OfFile file text out         the same over a mask file
--   printed_long, printed_parts  what is printed of an input that is too long, and of any other
use Rattle.std.specs.Prelude.{◌≡◌, refl, List, [], ◌∷◌, map, ℕ, ◌≤◌, ◌<◌, ℤ, length}
use Rattle.std.proofs.Common.{inl, inr, arith}
use Rattle.meaning.specs.Numbers.{limit}
use Rattle.meaning.specs.Answers.{Row, given, First, file_too_long}
use Rattle.meaning.specs.Rings.{Ring, GoodRings, ring_edges}
use Rattle.meaning.specs.MaskFile.{five, bytes_of, longest}
use Rattle.meaning.specs.Faults.{FileFault}
use Rattle.meaning.specs.Printed.{first_line}
use Rattle.meaning.specs.Program.{text_of, file_of, refuses, ring_rows, Shown, Prints}

unfoldable pub OfEdges : List ℤ → List ℕ → Row (List ℕ)
OfEdges ns text = First (map refuses (ring_rows ns text)) (Shown ns text)

unfoldable pub OfFile : List ℕ → List ℕ → Row (List ℕ)
OfFile file text =
    First (map refuses (given (longest < length file) file_too_long ∷ FileFault five limit file ∷ []))
    (λ out. (rs : List Ring) × GoodRings limit rs × (file ≡ bytes_of five rs) × OfEdges (ring_edges rs) text out)

pub printed_long : (input : List ℕ) → 65536 < length input → Prints input (first_line file_too_long)
unfolding Prints
printed_long input h = inl (file_too_long, (h, refl), refl)

pub printed_parts : (input out file text : List ℕ) → length input ≤ 65536 → file ≡ file_of input → text ≡ text_of input → OfFile file text out → Prints input out
unfolding Prints OfFile OfEdges
printed_parts input out file text h e f x = inr ((λ s y. omega (arith, y.1.0)), rw (e, f) at x)
