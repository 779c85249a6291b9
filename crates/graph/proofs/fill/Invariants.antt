-- `graph::fill` meets its contract: after i turns the arrays hold the first i constraints. Assumes nothing.
use Rattle.theory.specs.Prelude.{take}
use Rattle.graph.specs.Lent.{InArrays}
use Rattle.graph.proofs.fill.Given as goal

abbrev pub invariant-loop-i : goal.invariant-loop-i
invariant-loop-i l = InArrays (take l.i l.s.constraints) l.near l.start l.codes
