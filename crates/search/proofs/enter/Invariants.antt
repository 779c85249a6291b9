-- `search::enter` meets its contract: the loop keeps `Entering`. Assumes nothing.
use Rattle.search.proofs.Storing.{Entering}
use Rattle.search.proofs.enter.Given as goal

abbrev pub invariant-loop-p : goal.invariant-loop-p
invariant-loop-p l = record {
  can_next : (goal.iterator-loop-p).can_next l.p-iterator;
  is_finite : (goal.iterator-loop-p).is_finite l.p-iterator;
  entering : Entering l.initial.links l.initial.hold l.x l.c l.links l.hold l.p-iterator.rest;
}
