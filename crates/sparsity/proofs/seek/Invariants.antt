-- `seek` meets its contract. The loops' invariants: the queue has what is reached so far, none of it has a free entry, and the first p places are
-- scanned, and of the element at place p the first s entries. Assumes nothing.
use Rattle.std.specs.Prelude.{◌-◌}
use Rattle.sparsity.specs.Reach.Laws.{Searched, Scanning}
use Rattle.sparsity.proofs.seek.Given as goal

abbrev pub invariant-loop-s : goal.invariant-loop-s
invariant-loop-s l = Scanning l.own l.a l.b l.queue l.from l.seen l.count l.p l.x l.s

abbrev pub invariant-loop-p : goal.invariant-loop-p
invariant-loop-p l = Searched l.own l.a l.b l.queue l.from l.seen l.count l.p

abbrev pub decreases-loop-p : goal.decreases-loop-p
decreases-loop-p l = 64 - l.p
