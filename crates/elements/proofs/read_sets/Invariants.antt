-- `elements::read_sets` meets its contract: the sets of the kinds from i on; the numbers stay below 2 ^ 64. Assumes nothing.
use Rattle.theory.specs.Prelude.{drop}
use Rattle.elements.specs.Round.{round_kinds, SetsOf}
use Rattle.elements.proofs.read_sets.Given as goal

abbrev pub invariant-loop-i : goal.invariant-loop-i
invariant-loop-i l = SetsOf (drop l.i (round_kinds l.s l.at l.n)) (record { lines = l.lines; circles = l.circles })
