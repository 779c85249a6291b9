-- `writer::put_sheet` meets its contract. The loop's invariant: the bytes of the constraints passed are put, after what precedes them.
-- Assumes nothing.
use Rattle.theory.specs.Prelude.{take}
use Rattle.sheet.specs.Encode.{constraints_bytes}
use Rattle.space.specs.Space.{Put}
use Rattle.writer.proofs.put_sheet.Given as goal

abbrev pub invariant-loop-c : goal.invariant-loop-c
invariant-loop-c l = Put l.initial.out l.initial.at (constraints_bytes (take l.c-index l.c-items)) l.at l.out
