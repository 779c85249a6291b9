-- `all_free` meets its contract. Assumes nothing.
use Rattle.sparsity.specs.Freedoms.Laws.{free-none, free-next}
use Rattle.sparsity.proofs.all_free.Goals as goal

pub loop-x-init : goal.loop-x-init
loop-x-init c = free-none

pub loop-x-preserved : goal.loop-x-preserved
loop-x-preserved c = let l = c.loop-x in free-next l.x l.own c.loop-x-test.true l.invariant
