-- `rests::note_alone` meets its contract: the words of the numbers passed stand. Assumes nothing.
use Rattle.rests.specs.Words.{Alone}
use Rattle.rests.proofs.note_alone.Given as goal

abbrev pub invariant-loop-i : goal.invariant-loop-i
invariant-loop-i l = Alone l.first l.last l.i l.words
