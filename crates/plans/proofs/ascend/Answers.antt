-- `plans::ascend` meets its contract. Assumes nothing.
use Rattle.theory.specs.Plan.{ascending}
use Rattle.plans.proofs.ascend.Goals as goal

pub returns : goal.returns
unfolding ascending
returns c = simp (c.min-low.ensures, c.max-high.ensures, c.min.ensures, c.min-2.ensures, c.max.ensures, c.max-2.ensures)
