-- `report::put_set_from` meets its contract: the elements of the set to come are still to be put. Assumes nothing.
use Rattle.std.specs.Prelude.{◌^◌, ◌<◌}
use Rattle.report.specs.Elements.{elements}
use Rattle.report.specs.Pieces.{numbers, above}
use Rattle.report.specs.Block.{Stands}
use Rattle.report.specs.Going.{Going}
use Rattle.report.proofs.put_set_from.Given as goal

abbrev pub invariant-loop-x : goal.invariant-loop-x
invariant-loop-x l = record {
  can_next : (goal.iterator-loop-x).can_next l.x-iterator;
  is_finite : (goal.iterator-loop-x).is_finite l.x-iterator;
  fits : l.x-iterator.rest < 2 ^ 64;
  going : Going Stands l.initial.out l.at (numbers (above l.first (elements l.set))) l.out l.next (numbers (above l.first (elements l.x-iterator.rest)));
}
