-- `search` meets its contract. The loop's invariant: the constraints before c use freedoms and are not over. Assumes nothing.
use Rattle.theory.specs.Prelude.{take}
use Rattle.sparsity.specs.Answer.{Using}
use Rattle.sparsity.proofs.search.Given as goal

abbrev pub invariant-loop-c : goal.invariant-loop-c
invariant-loop-c l = Using (take l.c (take l.e l.start)) l.core l.own
