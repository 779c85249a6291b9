-- `merges::merge_into` meets its contract: the arrays begin blank, and what is left in them is the run. Assumes nothing.
use Rattle.merges.specs.Run.Laws.{begin-same}
use Rattle.merges.specs.Search.Laws.{lent-begins}
use Rattle.merges.proofs.Running.{planned-same}
use Rattle.merges.proofs.merge_into.Goals as goal

pub merge_on-requires : goal.merge_on-requires
merge_on-requires c = lent-begins c.requires.0 c.requires.1 c.lay.ensures

pub returns : goal.returns
returns c = planned-same (begin-same c.requires.0 c.lay.ensures) c.merge_on.ensures.planned
