-- `merges::merge_some` meets its contract: it goes on until none is open or the limit is reached. Assumes nothing.
use Rattle.merges.proofs.Running.{stopped-to}
use Rattle.merges.proofs.merge_some.Goals as goal

pub returns : goal.returns
returns c = stopped-to c.advance.ensures.1
