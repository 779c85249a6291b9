-- `search::joining` meets its contract: no cluster of the words passed holds both. Assumes nothing.
use Rattle.search.proofs.Joins.{Apart}
use Rattle.search.proofs.joining.Given as goal

abbrev pub invariant-loop-w : goal.invariant-loop-w
invariant-loop-w l = Apart l.hold l.x l.z l.w
