-- `writing::measure` meets its contract. Assumes nothing.
use mathlib.Core.Path.{◌≡◌}
use Prim.Native.Nat.{◌-◌}
use lib.ListN.{length}
use Rattle.strips.specs.Lent.{Lent}
use Rattle.writing.specs.Loops.{Measuring}
use Rattle.writing.proofs.measure.Given as goal

abbrev pub invariant-loop-g : goal.invariant-loop-g
invariant-loop-g l = record {
  measuring : Measuring l.given.base l.given.edges.words.now l.given.edges.layers.now l.given.edges.ends.now l.given.truth.now l.given.vx.now (length l.initial.strips.covers.now) l.initial.loc l.loc l.initial.cs l.cs l.initial.strips.counts.now l.strips.counts.now l.initial.strips.covers.now l.strips.covers.now l.initial.told l.told l.initial.marks l.marks l.g l.all l.last l.sum;
  long : length l.strips.counts.now ≡ length l.initial.strips.counts.now;
  lent : Lent l.initial.strips l.strips;
}

abbrev pub decreases-loop-g : goal.decreases-loop-g
decreases-loop-g l =
    length l.given.edges.words.now - l.g
