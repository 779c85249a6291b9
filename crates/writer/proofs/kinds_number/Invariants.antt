-- `writer::kinds_number` meets its contract. The loop's invariant: the number is that of the elements passed, the last ones. Assumes nothing.
use Rattle.std.specs.Slice.Iter.{iter_rest}
use Rattle.std.specs.Iterator.Adapters.{rev_source}
use Rattle.writer.proofs.Spread.{Passed}
use Rattle.writer.proofs.kinds_number.Given as goal

abbrev pub invariant-loop-x : goal.invariant-loop-x
invariant-loop-x l = record {
  can_next : (goal.iterator-loop-x).can_next l.x-iterator;
  is_finite : (goal.iterator-loop-x).is_finite l.x-iterator;
  passed : Passed l.fn.o l.elements (iter_rest (rev_source l.x-iterator)) l.u;
}
