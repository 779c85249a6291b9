-- `sheet::check_constraints` meets its contract. The loop's invariant: the constraints before the one at hand are noted, and the faults from it on
-- are those of the whole list. Assumes nothing.
use Rattle.std.specs.Prelude.{◌≡◌}
use Rattle.theory.specs.Prelude.{List, [], length, take, drop}
use Rattle.sheet.specs.declared.Element.{Element}
use Rattle.sheet.specs.Facts.Kinds.{KindsIn}
use Rattle.sheet.specs.Rules.{constraints_fault}
use Rattle.sheet.specs.Noted.{Noted}
use Rattle.sheet.proofs.check_constraints.Given as goal

abbrev pub invariant-loop-c : goal.invariant-loop-c
invariant-loop-c l = Noted l.near (take l.c-index l.cs)
    × ((es : List Element) → l.n ≡ length es → KindsIn es l.kinds l.radii
    → constraints_fault es [] l.cs ≡ constraints_fault es (take l.c-index l.cs) (drop l.c-index l.cs))
