-- Examples 8 and 9 of the paper, and the file of its program, by computation. Assumes nothing.
use Rattle.std.specs.Prelude.{◌≡◌, refl, List, [], ◌∷◌, ℕ, ◌^◌, ℤ, pos}
use Rattle.std.proofs.Common.{inl, inr, arith, lit≤}
use Rattle.meaning.specs.Numbers.{limit}
use Rattle.meaning.specs.Answers.{accepted, bad_number, ends_inside}
use Rattle.meaning.specs.Rings.{pair, Ring, ring, GoodRings, pairs_in, pair_numbers, ring_numbers, edges_between, ring_edges}
use Rattle.meaning.specs.MaskFile.{spelt, five, signed, further_pairs, stored_pairs, stored_rings, bytes_of_all, bytes_of}
use Rattle.meaning.specs.Faults.{Read}
use Rattle.ring_laws.specs.Groups.{bad, front, clash, front_cut, cut_front, bad_front}
use Rattle.ring_laws.specs.Calls.{read_fault, read_laid, laid_done}

-- ---- 8. "Stored 100: C8 01. Stored 2^30: 80 80 80 80 08."

pub stored_100 : spelt five (signed (pos 100)) ≡ 0xC8 ∷ 0x01 ∷ []
unfolding spelt
stored_100 = refl

pub stored_limit : spelt five (signed (pos (2 ^ 30))) ≡ 0x80 ∷ 0x80 ∷ 0x80 ∷ 0x80 ∷ 0x08 ∷ []
unfolding spelt
stored_limit = refl

-- ---- 9. "Bytes 80 00: 13. File 01: empty list. Empty file: 12, value 0."

pub bytes_80_00 : (out : List ℤ) → Read (0x80 ∷ 0x00 ∷ []) out (bad_number 0, out)
unfolding front
bytes_80_00 out =
    let e : front five (0x80 ∷ 0x00 ∷ []) ≡ bad = refl in
    read_fault (0x80 ∷ 0x00 ∷ []) out (bad_number 0) (lit≤ tt)
    (inr (λ a j. clash (cc (e, front_cut five (0x80 ∷ 0x00 ∷ []) j.0)), inl (bad_front five (0x80 ∷ 0x00 ∷ []) e, refl)))

pub empty_file : (out : List ℤ) → Read [] out (ends_inside 0, out)
unfolding front
empty_file out = read_fault [] out (ends_inside 0) (lit≤ tt) (inl (cut_front five [] refl, refl))

none : GoodRings limit []
unfolding pairs_in
none = record { each = tt; few = lit≤ tt }

pub file_01 : (out : List ℤ) → Read (0x01 ∷ []) out (accepted 0, out)
unfolding spelt bytes_of_all stored_rings ring_numbers
file_01 out = read_laid (0x01 ∷ []) out [] (accepted 0, out) (lit≤ tt) none refl (laid_done [] out (omega arith))

-- ---- the program's file: bytes 01 00 02 14 00 15 0A 01 02 1C 04 11 0C

pub file : List ℕ
file = 0x01 ∷ 0x00 ∷ 0x02 ∷ 0x14 ∷ 0x00 ∷ 0x15 ∷ 0x0A ∷ 0x01 ∷ 0x02 ∷ 0x1C ∷ 0x04 ∷ 0x11 ∷ 0x0C ∷ []

-- its rings: A and B of the examples
pub rings : List Ring
rings = ring 0 (pair (pos 10) (pos 0) ∷ pair (pos 0) (pos 5) ∷ []) ∷ ring 1 (pair (pos 14) (pos 2) ∷ pair (pos 6) (pos 8) ∷ []) ∷ []

pub file_is : file ≡ bytes_of five rings
unfolding file rings spelt bytes_of_all stored_rings stored_pairs further_pairs
file_is = refl

pub numbers_are : ring_numbers rings ≡ pos 0 ∷ pos 2 ∷ pos 10 ∷ pos 0 ∷ pos 0 ∷ pos 5 ∷ pos 1 ∷ pos 2 ∷ pos 14 ∷ pos 2 ∷ pos 6 ∷ pos 8 ∷ []
unfolding rings ring_numbers pair_numbers
numbers_are = refl

-- A is (0,0,10,0), (0,5,0,10); B is (1,2,14,6), (1,8,6,14)
pub edges_are : ring_edges rings ≡ pos 0 ∷ pos 0 ∷ pos 10 ∷ pos 0 ∷ pos 0 ∷ pos 5 ∷ pos 0 ∷ pos 10 ∷ pos 1 ∷ pos 2 ∷ pos 14 ∷ pos 6 ∷ pos 1 ∷ pos 8 ∷ pos 6 ∷ pos 14 ∷ []
unfolding rings ring_edges edges_between
edges_are = refl
