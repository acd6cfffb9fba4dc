-- `closure::test` meets its contract. Assumes nothing.
use Rattle.std.proofs.Common.{Ok}
use Rattle.closure.specs.TestLaws.{found_tested}
use Rattle.closure.proofs.test.Goals as goal

pub returns-then-all_even : goal.returns-then-all_even
returns-then-all_even c = found_tested c.requires c.mark_all.ensures (Ok tt) (c.all_even.ensures c.if-all_even.true)

pub returns : goal.returns
returns c = found_tested c.requires c.mark_all.ensures c.search.result c.search.ensures
