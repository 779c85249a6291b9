-- `reader::read_constraints` meets its contract: whatever the elements are, what is left gives the answer (`Turn`).
-- Assumes nothing.
use Rattle.std.specs.Prelude.{◌≡◌}
use Rattle.theory.specs.Prelude.{List, [], length}
use Rattle.sheet.specs.declared.Element.{Element}
use Rattle.sheet.specs.Facts.Kinds.{KindsIn}
use Rattle.graph.specs.Lent.{InArrays}
use Rattle.reader.proofs.Constraints.{Turn}
use Rattle.reader.proofs.read_constraints.Given as goal

abbrev pub invariant-loop-i : goal.invariant-loop-i
invariant-loop-i l = (es : List Element) → l.h.n ≡ length es → KindsIn es l.h.kinds l.radii
    → InArrays [] l.initial.near l.initial.start l.initial.codes → Turn l.s es l.h.e l.initial.c.at l.near l.start l.codes l.c.at l.i
