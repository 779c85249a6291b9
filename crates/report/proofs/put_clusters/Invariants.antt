-- `report::put_clusters` meets its contract: the lines of the clusters from `c` on are still to be put. Assumes nothing.
use Rattle.theory.specs.Prelude.{take, drop}
use Rattle.report.specs.Report.{cluster_lines}
use Rattle.report.specs.Pieces.{wide}
use Rattle.report.specs.Block.{Stands}
use Rattle.report.specs.Going.{Going}
use Rattle.report.proofs.put_clusters.Given as goal

abbrev pub invariant-loop-c : goal.invariant-loop-c
invariant-loop-c l = Going Stands l.initial.out l.at (cluster_lines 0 (take l.used l.slots) (take l.used (wide l.low l.high))) l.out l.next
    (cluster_lines l.c (drop l.c (take l.used l.slots)) (drop l.c (take l.used (wide l.low l.high))))
