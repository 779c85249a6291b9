-- `plans::check_plan` meets its contract: the loop keeps `Checking`. Assumes nothing.
use Rattle.std.specs.Prelude.{◌*◌}
use Rattle.theory.specs.Prelude.{take}
use Rattle.plans.proofs.Checking.{Checking}
use Rattle.plans.proofs.check_plan.Given as goal

abbrev pub invariant-loop-steps : goal.invariant-loop-steps
invariant-loop-steps l = Checking (take l.e l.start) l.e l.plan l.slots l.parts l.joints l.steps (3 * l.steps)
