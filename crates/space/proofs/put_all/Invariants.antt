-- `space::put_all` meets its contract: after i turns the first i items are stored. Assumes nothing.
use Rattle.space.specs.Space.Laws.{Storing}
use Rattle.space.proofs.put_all.Given as goal

abbrev pub invariant-loop-i : goal.invariant-loop-i
invariant-loop-i g l = Storing l.initial.out 0 l.items l.i l.out
