-- `gather` meets its contract. The loops' invariants: the same constraints use the freedoms in another way; on the way back the freedoms from the
-- place found to place `to` are turned. Assumes nothing.
use Rattle.std.specs.Prelude.{◌+◌, ◌-◌}
use Rattle.sparsity.specs.Freedoms.{free}
use Rattle.sparsity.specs.Reach.{Rebalanced, Way, Walked}
use Rattle.sparsity.proofs.gather.Given as goal

abbrev pub invariant-loop-to : goal.invariant-loop-to
invariant-loop-to l = record {
  way : Way l.initial.t l.queue l.from l.initial.to;
  walked : Walked l.initial.t l.queue l.initial.to l.to l.t;
}

abbrev pub decreases-loop-to : goal.decreases-loop-to
decreases-loop-to l = l.to

abbrev pub invariant-loop-queue : goal.invariant-loop-queue
invariant-loop-queue l = Rebalanced l.initial.t l.a l.b l.t

abbrev pub decreases-loop-queue : goal.decreases-loop-queue
decreases-loop-queue l = l.need - (free l.t l.a + free l.t l.b)
