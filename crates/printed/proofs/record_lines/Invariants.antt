use mathlib.Core.Path.{◌≡◌}
use Prim.Native.Nat.{◌+◌, ◌*◌, ◌≤◌}
use lib.ListN.{length}
use Rattle.std.specs.Slice.Iter.{chunks_exact_rest, chunks_exact_size}
use Rattle.numerals.specs.declared.Writer.{Writer}
use Rattle.numerals.specs.Stored.{Stored}
use Rattle.printed_laws.specs.Lines.{number_lines}
use Rattle.printed.proofs.record_lines.Given as goal

-- the lines of the records that are left, stored from here, make those of all, stored from the start
abbrev pub invariant-loop-r : goal.invariant-loop-r
invariant-loop-r l = record {
  fours : chunks_exact_size l.r-iterator ≡ 4;
  room : l.to.at + 12 * length (chunks_exact_rest l.r-iterator) ≤ l.initial.to.at + 12 * length l.records;
  long : length l.to.out.now ≡ length l.initial.to.out.now;
  left : (after : Writer) → Stored l.to (number_lines (chunks_exact_rest l.r-iterator)) after → Stored l.initial.to (number_lines l.records) after;
}
