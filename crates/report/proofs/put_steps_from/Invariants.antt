-- `report::put_steps_from` meets its contract: the lines of the steps from `t` on are still to be put. Assumes nothing.
use Rattle.std.specs.Prelude.{◌-◌}
use Rattle.engine.specs.Steps.{step_at, steps_for}
use Rattle.report.specs.Report.{step_lines}
use Rattle.report.specs.Block.{Stands}
use Rattle.report.specs.Going.{Going}
use Rattle.report.proofs.put_steps_from.Given as goal

abbrev pub invariant-loop-t : goal.invariant-loop-t
invariant-loop-t l = Going Stands l.initial.out l.at (step_lines (steps_for (step_at l.lines l.e l.sizes l.start l.parts l.joints) l.first (l.last - l.first))) l.out l.next
    (step_lines (steps_for (step_at l.lines l.e l.sizes l.start l.parts l.joints) l.t (l.last - l.t)))
