-- `sets::image` meets its contract: the loop keeps `Imaged`. Assumes nothing.
use Rattle.sets.specs.Image.Laws.{Imaged}
use Rattle.sets.proofs.image.Given as goal

abbrev pub invariant-loop-p : goal.invariant-loop-p
invariant-loop-p l = record {
  can_next : (goal.iterator-loop-p).can_next l.p-iterator;
  is_finite : (goal.iterator-loop-p).is_finite l.p-iterator;
  imaged : Imaged l.table l.set l.p-iterator.rest l.all;
}
