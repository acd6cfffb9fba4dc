-- `laukavesp::main` is safe: what it writes stands in the output. Assumes nothing.
use Rattle.program.specs.Answered.{answered_fits}
use Rattle.laukavesp.proofs.main.Goals as goal

pub slice_bounds-write_all-end : goal.slice_bounds-write_all-end
slice_bounds-write_all-end c = answered_fits c.answer-k.ensures
