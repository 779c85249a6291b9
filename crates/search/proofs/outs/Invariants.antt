-- `search::outs` meets its contract: the loop keeps `Seen`. Assumes nothing.
use Rattle.search.proofs.Gather.{Seen}
use Rattle.search.proofs.outs.Given as goal

abbrev pub invariant-loop-p : goal.invariant-loop-p
invariant-loop-p l = record {
  can_next : (goal.iterator-loop-p).can_next l.p-iterator;
  is_finite : (goal.iterator-loop-p).is_finite l.p-iterator;
  seen : Seen l.links l.edge l.p-iterator.rest l.once l.twice;
}
