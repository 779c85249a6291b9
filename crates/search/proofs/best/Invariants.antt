-- `search::best` meets its contract: the loop keeps `Leading`. Assumes nothing.
use Rattle.theory.specs.Set.{◌∩◌}
use Rattle.search.specs.State.{linked, Joined}
use Rattle.search.proofs.Two.{Leading}
use Rattle.search.proofs.best.Given as goal

abbrev pub invariant-loop-z : goal.invariant-loop-z
invariant-loop-z l = record {
  can_next : (goal.iterator-loop-z).can_next l.z-iterator;
  is_finite : (goal.iterator-loop-z).is_finite l.z-iterator;
  leading : Leading (λ y. Joined l.hold (linked l.links y ∩ l.x) y) l.o l.z-iterator.rest l.best;
}
