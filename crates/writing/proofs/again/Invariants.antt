-- `writing::again` meets its contract. Assumes nothing.
use mathlib.Core.Path.{◌≡◌}
use Prim.Native.Nat.{◌-◌}
use lib.ListN.{length}
use Rattle.strips.specs.Lent.{Lent}
use Rattle.writing.specs.Loops.{Rewriting}
use Rattle.writing.proofs.again.Given as goal

abbrev pub invariant-loop-g : goal.invariant-loop-g
invariant-loop-g l = record {
  rewriting : Rewriting l.given.base l.given.edges.words.now l.given.edges.layers.now l.given.edges.ends.now l.given.truth.now l.given.vx.now l.h (length l.initial.strips.covers.now) l.initial.out l.out l.initial.loc l.loc l.initial.cs l.cs l.initial.strips.counts.now l.strips.counts.now l.initial.strips.covers.now l.strips.covers.now l.initial.told l.told l.initial.marks l.marks l.g l.n;
  long : length l.strips.counts.now ≡ length l.initial.strips.counts.now;
  lent : Lent l.initial.strips l.strips;
}

abbrev pub decreases-loop-g : goal.decreases-loop-g
decreases-loop-g l =
    length l.given.edges.words.now - l.g
