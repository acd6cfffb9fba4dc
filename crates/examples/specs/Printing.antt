-- The mask file of the program's example in document 01. What the program prints for it is in proofs/Printing.antt.
--
--   mask              the rings of the example: A and B
--   file              the bytes of the mask file
use Rattle.std.specs.Prelude.{List, [], ◌∷◌, ℕ, pos}
use Rattle.meaning.specs.Rings.{Ring, ring, pair}

abbrev pub mask : List Ring
mask = ring 0 (pair (pos 10) (pos 0) ∷ pair (pos 0) (pos 5) ∷ []) ∷ ring 1 (pair (pos 14) (pos 2) ∷ pair (pos 6) (pos 8) ∷ []) ∷ []

-- "bytes 01 00 02 14 00 15 0A 01 02 1C 04 11 0C"
abbrev pub file : List ℕ
file = 0x01 ∷ 0x00 ∷ 0x02 ∷ 0x14 ∷ 0x00 ∷ 0x15 ∷ 0x0A ∷ 0x01 ∷ 0x02 ∷ 0x1C ∷ 0x04 ∷ 0x11 ∷ 0x0C ∷ []
