-- `merges::merge_on` meets its contract: without a limit it goes on until none is open. Assumes nothing.
use Rattle.merges.proofs.Running.{stopped-ran}
use Rattle.merges.proofs.merge_on.Goals as goal

pub returns : goal.returns
returns c = stopped-ran c.advance.ensures.1
