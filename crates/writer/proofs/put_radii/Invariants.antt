-- `writer::put_radii` meets its contract. The loop's invariant: the radii of the elements passed are put. Assumes nothing.
use Rattle.theory.specs.Prelude.{take}
use Rattle.sheet.specs.Encode.{radii_bytes}
use Rattle.space.specs.Space.{Put}
use Rattle.writer.proofs.put_radii.Given as goal

abbrev pub invariant-loop-x : goal.invariant-loop-x
invariant-loop-x l = Put l.initial.out l.at (radii_bytes (take l.x-index l.elements)) l.next l.out
