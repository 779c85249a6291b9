-- The first i places hold the first i numbers: `Filling`, which ends where the list has no place left or the file no number.
use Prim.Native.Nat.{◌-◌}
use lib.ListN.{length}
use Rattle.console.specs.Numbers.Laws.{Filling}
use Rattle.console.proofs.numbers.Given as goal

abbrev pub invariant-loop-i : goal.invariant-loop-i
invariant-loop-i l = Filling l.bytes l.initial.list l.i l.list

abbrev pub decreases-loop-i : goal.decreases-loop-i
decreases-loop-i l = length l.initial.list - l.i
