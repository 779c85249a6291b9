-- The report of a sheet's graph. Document 01, "The report", and "Clusters and merges": the answer to an accepted saved plan is the report for that
-- plan, its steps in the saved order.
use Rattle.std.specs.Prelude.{ℕ, List, [], length}
use Rattle.theory.specs.Merge.{Merge, final}
use Rattle.theory.specs.Plan.{plan_of}
use Rattle.theory.specs.Graph.{Graph, SizedGraph, finding_of, list_verdict, steps_of}
use Rattle.theory.specs.Finding.{Finding}
use Rattle.theory.specs.Finding.{Fine, First}
use Rattle.theory.specs.declared.Verdict.{Verdict}
use Rattle.sheet.specs.Field.{Field, value}
use Rattle.sheet.specs.Rules.{or_else}
use Rattle.sheet.specs.Answer.{by_rule}
use Rattle.sheet.specs.Graph.{over_fault}
use Rattle.plans.specs.Check.{saved_steps_of, plan_fault}
use Rattle.theory.specs.Rests.{rests_on}
use Rattle.report.specs.Report.{report, over_report}
pub mod Laws
pub mod Answers
pub mod Room

-- the report of a list of merges of the constraints under a verdict, with the list's own steps and final clusters, and what these rest on (document
-- 02, 2026-04)
abbrev pub report_with : SizedGraph → Verdict → List Merge → List ℕ
report_with s v p = report s.graph.n (length s.graph.clusters) v (steps_of s p) (final s.graph.clusters p)
    (rests_on (length s.graph.clusters) p)

-- with its own verdict
unfoldable pub list_report : SizedGraph → List Merge → List ℕ
list_report s p = report_with s (list_verdict s.graph p) p

-- of a sheet that is not over, the report of the engine's plan; else the first constraint and the smallest set
abbrev pub report_by : SizedGraph → Finding → List ℕ
report_by s Fine = list_report s (plan_of s.graph.clusters)
report_by s (First c x) = over_report s.graph.n (length s.graph.clusters) c x

unfoldable pub report_of : SizedGraph → List ℕ
report_of s = report_by s (finding_of s.graph)

-- ---- a saved plan, a list of numbers

-- the rule that refuses it, 0 if none: 11, then those of the plan check
unfoldable pub saved_fault : Graph → List ℕ → ℕ
saved_fault g l = or_else (over_fault g) (plan_fault g.clusters l)

-- the report for it, or the rule of the plan check that refuses it
abbrev pub saved_field : SizedGraph → List ℕ → Field (List ℕ)
saved_field s l = by_rule (plan_fault s.graph.clusters l) (value (list_report s (saved_steps_of l)) [])
