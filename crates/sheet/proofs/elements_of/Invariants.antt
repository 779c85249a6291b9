-- `sheet::elements_of` meets its contract: the elements before i stand in a blank block. Assumes nothing.
use Rattle.std.specs.Prelude.{◌≡◌}
use Rattle.theory.specs.Prelude.{List, length, take}
use Rattle.theory.specs.Block.{block}
use Rattle.sheet.specs.declared.Element.{Element}
use Rattle.sheet.specs.Facts.{blank_element}
use Rattle.sheet.specs.Facts.Kinds.{KindsIn}
use Rattle.sheet.proofs.elements_of.Given as goal

abbrev pub invariant-loop-i : goal.invariant-loop-i
invariant-loop-i l = (es : List Element) → length es ≡ l.n → KindsIn es l.kinds l.radii → l.elements ≡ block 64 blank_element (take l.i es)
