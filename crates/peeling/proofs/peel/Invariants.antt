-- `peel` meets its contract. The loop's invariant: the elements of the work list are light among those left, and the others not; real is peeled down
-- to what is left. Assumes nothing.
use Rattle.theory.specs.Prelude.{List, ℕ}
use Rattle.peeling.specs.Core.{Light, Heavy, Mutual, Peeled}
use Rattle.peeling.specs.Hard.{Shown}
use Rattle.peeling.proofs.peel.Given as goal

abbrev pub invariant-loop-todo : goal.invariant-loop-todo
invariant-loop-todo l = record {
  light : Light l.near l.left l.todo;
  peeled : (real : List ℕ) → Shown real l.near l.all → Peeled real l.all → Peeled real l.left × Shown real l.near l.left;
  heavy : Mutual l.near → Heavy l.near l.all l.all l.low → Heavy l.near l.left l.left l.todo;
}

abbrev pub decreases-loop-todo : goal.decreases-loop-todo
decreases-loop-todo l = l.left
