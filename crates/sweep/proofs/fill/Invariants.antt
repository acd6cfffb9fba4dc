-- `sweep::fill` meets its contract. Assumes nothing.
use Prim.Native.Nat.{◌-◌}
use lib.ListN.{length}
use Rattle.strips.specs.Lent.{Lent}
use Rattle.sweep.specs.Going.{Filling}
use Rattle.sweep.proofs.fill.Given as goal

abbrev pub invariant-loop-e : goal.invariant-loop-e
invariant-loop-e l = record {
  filling : Filling l.given.base l.given.edges.words.now l.given.edges.layers.now l.given.edges.ends.now l.given.truth.now l.given.vx.now l.n l.g l.sum l.initial.loc l.loc l.initial.strips.counts.now l.strips.counts.now l.initial.strips.covers.now l.strips.covers.now l.initial.told l.told l.initial.marks l.marks l.e l.so_far.count l.so_far.sum;
  lent : Lent l.initial.strips l.strips;
}

abbrev pub decreases-loop-e : goal.decreases-loop-e
decreases-loop-e l =
    length l.given.edges.words.now - l.e
