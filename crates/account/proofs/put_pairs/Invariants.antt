-- `account::put_pairs` meets its contract: the words of the living clusters passed are put. Assumes nothing.
use Rattle.std.specs.Prelude.{◌*◌, ◌≤◌}
use Rattle.theory.specs.Prelude.{take}
use Rattle.space.specs.Space.{Put}
use Rattle.account.specs.Resting.Pairs.{pairs_in}
use Rattle.account.proofs.put_pairs.Given as goal

abbrev pub invariant-loop-c : goal.invariant-loop-c
invariant-loop-c l = (l.next ≤ 2 * l.c) × Put l.initial.out 0 (pairs_in (take l.c l.slots) (take l.c l.low) (take l.c l.high)) l.next l.out
