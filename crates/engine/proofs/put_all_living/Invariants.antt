-- `engine::put_all_living` meets its contract: the living clusters passed are put. Assumes nothing.
use Rattle.std.specs.Prelude.{◌≤◌}
use Rattle.theory.specs.Prelude.{take}
use Rattle.space.specs.Space.{Put}
use Rattle.engine.specs.Lists.{living_of}
use Rattle.engine.proofs.put_all_living.Given as goal

abbrev pub invariant-loop-x : goal.invariant-loop-x
invariant-loop-x l = record {
  few : l.next ≤ l.x-index;
  passed : Put l.initial.out 0 (living_of (take l.x-index l.x-items)) l.next l.out;
}
