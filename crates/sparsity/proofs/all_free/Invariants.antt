-- `all_free` meets its contract. Assumes nothing.
use Rattle.sparsity.specs.Freedoms.{FreeBelow}
use Rattle.sparsity.proofs.all_free.Given as goal

abbrev pub invariant-loop-x : goal.invariant-loop-x
invariant-loop-x l = FreeBelow l.x l.own
