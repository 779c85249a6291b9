-- `judge::merged` meets its contract: the verdict that is settled is the plan's own. Assumes nothing.
use Rattle.judge.specs.Found.Laws.{asked, merged-found}
use Rattle.judge.proofs.merged.Goals as goal

pub merge_into-steps-requires : goal.merge_into-steps-requires
merge_into-steps-requires c = (c.requires.0, c.requires.2)

pub settle-verdict-requires : goal.settle-verdict-requires
settle-verdict-requires c = asked c.args.h c.requires.0 c.requires.1 c.merge_into-steps.ensures

pub one_left-requires : goal.one_left-requires
one_left-requires c = let a = asked c.args.h c.requires.0 c.requires.1 c.merge_into-steps.ensures in a.0

pub returns : goal.returns
returns c = merged-found c.args.h c.requires.0 c.requires.1 c.merge_into-steps.ensures c.settle-verdict.ensures c.one_left.ensures
