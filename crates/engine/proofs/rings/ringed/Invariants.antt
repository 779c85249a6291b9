-- `engine::rings::ringed` meets its contract: a turn does not change the answer, and one that takes nothing off ends it. Assumes nothing.
use Rattle.std.specs.Prelude.{◌≡◌}
use Rattle.theory.specs.Prelude.{ones}
use Rattle.theory.specs.Ring.{ringed}
use Rattle.engine.proofs.rings.ringed.Given as goal

abbrev pub invariant-loop-l : goal.invariant-loop-l
invariant-loop-l l = ringed l.l l.clusters ≡ ringed l.lines l.clusters

abbrev pub decreases-loop-l : goal.decreases-loop-l
decreases-loop-l l = ones l.l
