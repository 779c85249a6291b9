-- `engine::steps_of` meets its contract: the steps passed stand, and the rest is blank. Assumes nothing.
use Rattle.engine.specs.Steps.{Stepped}
use Rattle.engine.proofs.steps_of.Given as goal

abbrev pub invariant-loop-t : goal.invariant-loop-t
invariant-loop-t l = Stepped l.lines l.e l.sizes l.start l.parts l.joints l.t l.steps
