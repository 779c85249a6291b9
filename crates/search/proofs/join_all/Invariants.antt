-- `search::join_all` meets its contract: the loop keeps `Begun` of the clusters passed. Assumes nothing.
use Rattle.search.specs.State.{Begun}
use Rattle.search.proofs.join_all.Given as goal

abbrev pub invariant-loop-c : goal.invariant-loop-c
invariant-loop-c l = Begun l.slots l.c l.links l.hold
