-- `report::put_steps` meets its contract: the steps from 0 to before `count` are the first `count`. Assumes nothing.
use Rattle.theory.specs.Prelude.{arith, sub-zero}
use Rattle.report.proofs.put_steps.Goals as goal

pub put_steps_from-requires : goal.put_steps_from-requires
put_steps_from-requires c = let p = c.requires in rw sub-zero (p.0, p.1, p.2, p.3, omega (arith, p.4))

pub returns : goal.returns
returns c = rw sub-zero at c.put_steps_from.ensures
