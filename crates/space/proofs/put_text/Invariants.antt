-- `space::put_text` meets its contract: after i turns the first i bytes are stored. Assumes nothing.
use Rattle.space.specs.Space.Laws.{Storing}
use Rattle.space.proofs.put_text.Given as goal

abbrev pub invariant-loop-i : goal.invariant-loop-i
invariant-loop-i l = Storing l.initial.out l.at l.text l.i l.out
