-- `merges::lay` meets its contract: the clusters passed stand in the array. Assumes nothing.
use Rattle.std.specs.Prelude.{◌≡◌}
use Rattle.theory.specs.Prelude.{take}
use Rattle.theory.specs.Block.{block}
use Rattle.merges.proofs.lay.Given as goal

abbrev pub invariant-loop-i : goal.invariant-loop-i
invariant-loop-i l = l.slots ≡ block 192 0 (take l.i l.start)
