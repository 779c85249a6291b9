-- `engine::rings::strip_lines` meets its contract: the clusters are taken from the last to the first, as the definition goes. Assumes nothing.
use Rattle.std.specs.Prelude.{◌≡◌, ◌++◌}
use Rattle.theory.specs.Prelude.{List, ℕ, length}
use Rattle.engine.specs.Turns.{Swept}
use Rattle.engine.proofs.rings.strip_lines.Given as goal

abbrev pub invariant-loop-cluster : goal.invariant-loop-cluster
invariant-loop-cluster l = record {
  can_next : (goal.iterator-loop-cluster).can_next l.cluster-iterator;
  is_finite : (goal.iterator-loop-cluster).is_finite l.cluster-iterator;
  split : (passed : List ℕ) × (l.clusters ≡ l.cluster-iterator.iter.rest.now ++ passed);
  swept : Swept l.l l.clusters (length l.cluster-iterator.iter.rest.now) l.once l.twice;
}
