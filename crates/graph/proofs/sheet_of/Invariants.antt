-- `graph::sheet_of` meets its contract: the first i constraints of the facts stand in a blank block. Assumes nothing.
use Rattle.std.specs.Prelude.{◌≡◌}
use Rattle.theory.specs.Prelude.{ℕ, List, take}
use Rattle.theory.specs.Block.{block}
use Rattle.sheet.specs.Facts.{Facts, blank_constraint}
use Rattle.graph.specs.Lent.{SheetIn}
use Rattle.graph.proofs.sheet_of.Given as goal

abbrev pub invariant-loop-i : goal.invariant-loop-i
invariant-loop-i l = (f : Facts) (near : List ℕ) → SheetIn f l.fn.h near l.start l.codes l.radii
    → l.constraints ≡ block 200 blank_constraint (take l.i f.constraints)
