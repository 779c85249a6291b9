-- `light_of` meets its contract: the loop keeps `Tried`. Assumes nothing.
use Rattle.peeling.specs.Core.Neighbours.{Tried}
use Rattle.peeling.proofs.light_of.Given as goal

abbrev pub invariant-loop-x : goal.invariant-loop-x
invariant-loop-x l = record {
  can_next : (goal.iterator-loop-x).can_next l.x-iterator;
  is_finite : (goal.iterator-loop-x).is_finite l.x-iterator;
  tried : Tried l.near l.left l.who l.x-iterator.rest l.light;
}
