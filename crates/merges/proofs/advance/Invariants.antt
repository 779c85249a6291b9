-- `merges::advance` meets its contract: the loop keeps `Running`. Assumes nothing.
use Rattle.theory.specs.Prelude.{take}
use Rattle.merges.specs.Search.{Running}
use Rattle.merges.proofs.advance.Given as goal

abbrev pub invariant-loop-steps : goal.invariant-loop-steps
invariant-loop-steps l = Running (take l.e l.initial.slots) l.e l.slots l.links l.hold l.todo l.parts l.joints l.steps l.rim
