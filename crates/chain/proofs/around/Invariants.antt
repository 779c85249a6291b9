-- `chain::around` meets its contract: the clusters that are left add what is missing. Assumes nothing.
use Rattle.std.specs.Prelude.{◌≡◌}
use Rattle.theory.specs.Prelude.{drop}
use Rattle.chain.specs.Layers.{grown}
use Rattle.chain.proofs.around.Given as goal

abbrev pub invariant-loop-c : goal.invariant-loop-c
invariant-loop-c l = grown (drop l.c-index l.s) l.d l.all ≡ grown l.s l.d l.d
