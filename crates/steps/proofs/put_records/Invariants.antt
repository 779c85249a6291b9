-- `steps::put_records` meets its contract: the numbers of the records to come are still to be put. Assumes nothing.
use Rattle.theory.specs.Prelude.{drop}
use Rattle.space.specs.Space.{Put}
use Rattle.report.specs.Going.{Going}
use Rattle.steps.specs.Records.{step_numbers}
use Rattle.steps.proofs.put_records.Given as goal

abbrev pub invariant-loop-s : goal.invariant-loop-s
invariant-loop-s l = Going Put l.initial.out 0 (step_numbers l.s-items) l.out l.next (step_numbers (drop l.s-index l.s-items))
