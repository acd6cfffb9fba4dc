-- `marks::sum_all` meets its contract. The loop: the layers below l are done. Assumes nothing.
use Rattle.strips.specs.Lent.{Lent}
use Rattle.marks.proofs.AllLaws.{SummingAll}
use Rattle.marks.proofs.sum_all.Given as goal

abbrev pub invariant-loop-l : goal.invariant-loop-l
invariant-loop-l l = record {
  summing : SummingAll l.n l.a l.b l.l l.initial.strips.counts.now l.strips.counts.now l.initial.strips.covers.now l.strips.covers.now l.initial.d l.d;
  lent : Lent l.initial.strips l.strips;
}
