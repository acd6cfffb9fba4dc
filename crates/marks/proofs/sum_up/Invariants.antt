-- `marks::sum_up` meets its contract. The loop: the strips below r are done. Assumes nothing.
use Rattle.strips.specs.Lent.{Lent}
use Rattle.marks.proofs.SumLaws.{Summing}
use Rattle.marks.proofs.sum_up.Given as goal

abbrev pub invariant-loop-r : goal.invariant-loop-r
invariant-loop-r l = record {
  summing : Summing l.n l.layer l.a l.b l.r l.w l.initial.strips.counts.now l.strips.counts.now l.initial.strips.covers.now l.strips.covers.now l.initial.d l.d;
  lent : Lent l.initial.strips l.strips;
}
