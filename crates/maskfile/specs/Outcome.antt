-- What reading a whole file comes to, whatever its length and the room: a faulty number, or its list.
--
--   RingsOutcome f out r after   the reader's answer r after the edition 1, and the buffer out after it
--   FileOutcome f out r after    that of the whole file
use Rattle.std.specs.Prelude.{List, ℕ, ℤ}
use Rattle.meaning.specs.Numbers.{limit}
use Rattle.meaning.specs.Rings.{ring_numbers}
use Rattle.meaning.specs.MaskFile.{five, bytes_of}
use Rattle.meaning.specs.Faults.{RingFault, FileFault}
use Rattle.answers.specs.Told.{answer_of}
use Rattle.numbers.specs.Reading.{Reading}
use Rattle.reading_laws.specs.Outcome.{Outcome}

abbrev pub RingsOutcome : List ℕ → List ℤ → Reading → List ℤ → Type 0
RingsOutcome f out r after = Outcome answer_of (RingFault five limit f) (bytes_of five) ring_numbers f out r after

abbrev pub FileOutcome : List ℕ → List ℤ → Reading → List ℤ → Type 0
FileOutcome f out r after = Outcome answer_of (FileFault five limit f) (bytes_of five) ring_numbers f out r after
