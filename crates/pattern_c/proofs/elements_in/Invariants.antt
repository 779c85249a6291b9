-- The first i places hold the elements of the columns: `Filling`.
use Rattle.pattern_c.specs.Columns.{element_in}
use Rattle.pattern_c.specs.Columns.Laws.{Filling}
use Rattle.pattern_c.proofs.elements_in.Given as goal

abbrev pub invariant-loop-i : goal.invariant-loop-i
invariant-loop-i l = Filling (element_in l.kinds l.radii) 64 l.i l.elements
