-- `maskwriter::FileMade::begin` meets its contract: the edition stands before the first ring. Assumes nothing.
use Rattle.maskwriter.specs.Filed.{file_starts}
use Rattle.maskwriter.proofs.FileMade.begin.Goals as goal

pub returns : goal.returns
returns c = file_starts _ _ _ c.put_number.ensures
