-- The program's example in document 01, as a theorem about what the program prints. Assumes nothing.
--
--   printed_example   THE EXAMPLE: for `a*b`, a line feed and the 13 bytes of the mask file the program prints the six lines
use Rattle.std.specs.Prelude.{◌≡◌, refl, List, [], ◌∷◌, ◌++◌, ℕ, ◌*◌, ℤ, pos, nat_abs, replicate, take, drop}
use Rattle.std.proofs.Common.{ap, subst, arith}
use Rattle.std.proofs.lemmas.List.{length-replicate}
use Rattle.meaning.specs.Numbers.{limit}
use Rattle.meaning.specs.Answers.{accepted}
use Rattle.meaning.specs.Expression.{bytes}
use Rattle.meaning.specs.Rings.{GoodRings, pairs_in, ring_edges, edges_between}
use Rattle.meaning.specs.MaskFile.{spelt, further_pairs, stored_pairs, stored_rings, bytes_of_all}
use Rattle.meaning.specs.Printed.{digits, decimal, signed_text, text_line, first_line, area_line}
use Rattle.meaning.specs.Program.{text_of, file_of, Prints}
use Rattle.printed_laws.specs.Lines.{number_line, number_lines, accepted_text}
use Rattle.program.specs.Parts.{OfEdges, printed_parts}
use Rattle.program.specs.Edges.{edges_shown}
use Rattle.program.specs.Files.{RingEdges, file_edges}
use Rattle.examples.specs.Table.{A, B}
use Rattle.examples.proofs.Table.{checked}
use Rattle.examples.specs.Printing.{file, mask}

apart : (m n : ℕ) → (m ≡ n → ⊥) → pos m ≡ pos n → ⊥
apart m n f e = f (ap nat_abs e)

good : GoodRings limit mask
unfolding pairs_in
good = record {
  each = (
    record { low = omega arith; two = omega arith; range = ((refl, refl), ((refl, refl), tt)); differ_x = (apart 10 0 (λ z. omega arith), (apart 0 10 (λ z. omega arith), tt)); differ_y = (apart 0 5 (λ z. omega arith), (apart 5 0 (λ z. omega arith), tt)) },
    (
      record { low = omega arith; two = omega arith; range = ((refl, refl), ((refl, refl), tt)); differ_x = (apart 14 6 (λ z. omega arith), (apart 6 14 (λ z. omega arith), tt)); differ_y = (apart 2 8 (λ z. omega arith), (apart 8 2 (λ z. omega arith), tt)) },
      tt,
    ),
  );
  few = omega arith;
}

rings : RingEdges file (A ++ B)
unfolding ring_edges edges_between spelt further_pairs stored_pairs stored_rings bytes_of_all
rings = record { rings = mask; good = good; is = refl; edges = refl }

-- the records' numbers stand at the front of the room, and the six lines are their text
lines : (room : List ℤ) → accepted_text 4 (take (4 * 4) ((pos 0 ∷ pos 2 ∷ pos 10 ∷ pos 6 ∷ pos 0 ∷ pos 5 ∷ pos 6 ∷ pos 10 ∷ pos 1 ∷ pos 6 ∷ pos 2 ∷ pos 5 ∷ pos 1 ∷ pos 10 ∷ pos 5 ∷ pos 2 ∷ []) ++ room)) 12
    ≡ bytes "0 4\n0 2 10 6\n0 5 6 10\n1 6 2 5\n1 10 5 2\narea 12\n"
unfolding accepted_text number_lines number_line first_line area_line text_line signed_text decimal digits bytes
lines room = refl

pub printed_example : Prints (bytes "a*b\n" ++ file) (bytes "0 4\n0 2 10 6\n0 5 6 10\n1 6 2 5\n1 10 5 2\narea 12\n")
unfolding bytes text_of file_of
printed_example =
    let room = replicate 8192 (pos 0) in
    let long = length-replicate 8192 (pos 0) in
    printed_parts (bytes "a*b\n" ++ file) _ file (bytes "a*b") (omega arith) refl refl
    (file_edges file (bytes "a*b") (A ++ B) _ rings
    (subst (OfEdges (A ++ B) (bytes "a*b")) (lines (drop 16 room))
    (edges_shown (A ++ B) (bytes "a*b") room _ long 0 4 refl (checked.0.0 room (omega (arith, long))) (accepted 12) checked.0.1)))
