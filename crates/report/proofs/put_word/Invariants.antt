-- `report::put_word` meets its contract: the bytes from `i` on are still to be put. Assumes nothing.
use Rattle.std.specs.Prelude.{◌+◌}
use Rattle.theory.specs.Prelude.{drop}
use Rattle.report.specs.Block.{Stands}
use Rattle.report.specs.Going.{Going}
use Rattle.report.proofs.put_word.Given as goal

abbrev pub invariant-loop-i : goal.invariant-loop-i
invariant-loop-i l = Going Stands l.initial.out l.at l.word l.out (l.at + l.i) (drop l.i l.word)
