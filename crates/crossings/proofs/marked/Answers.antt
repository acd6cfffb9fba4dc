-- `crossings::marked` meets its contract. Assumes nothing.
use Rattle.std.proofs.Common.{rules, ◌≡◌}
use Rattle.crossings.specs.MarkedLaws.{marked_ready, marked_done}
use Rattle.crossings.specs.MarkSteps.{place_marked}
use Rattle.crossings.proofs.marked.Goals as goal

pub sum_all-requires : goal.sum_all-requires
sum_all-requires c = marked_ready c.requires.0 c.requires.1 (place_marked c.requires.0 c.requires.1 c.each-t.ensures.held c.each-t.ensures.stop)

pub returns-clause-advanced : goal.returns-clause-advanced
returns-clause-advanced c = (marked_done c.requires.0 c.requires.1 (place_marked c.requires.0 c.requires.1 c.each-t.ensures.held c.each-t.ensures.stop) c.sum_all.ensures.summed).0

pub returns-clause-fresh : goal.returns-clause-fresh
returns-clause-fresh c =
    let e : c.sum_all.new.d ≡ c.args.marks.now = (marked_done c.requires.0 c.requires.1 (place_marked c.requires.0 c.requires.1 c.each-t.ensures.held c.each-t.ensures.stop) c.sum_all.ensures.summed).1 in
    search rules
