-- The first i places hold the constraints of the columns: `Filling`.
use Rattle.pattern_c.specs.Columns.{constraint_in}
use Rattle.pattern_c.specs.Columns.Laws.{Filling}
use Rattle.pattern_c.proofs.constraints_in.Given as goal

abbrev pub invariant-loop-i : goal.invariant-loop-i
invariant-loop-i l = Filling (constraint_in l.firsts l.seconds l.maps l.sizes) 200 l.i l.cs
