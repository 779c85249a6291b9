-- A record holds what the step's report line gives: the report's step lines are the lines of the records, in their order. Assumes nothing.
use Rattle.std.specs.Prelude.{◌≡◌, ◌++◌}
use Rattle.theory.specs.Prelude.{ℕ, refl, ap, ◌∙◌, List, length}
use Rattle.theory.specs.Merge.{Merge}
use Rattle.theory.specs.Plan.{plan_of}
use Rattle.theory.specs.Finding.{Fine}
use Rattle.theory.specs.declared.Step.{Step}
use Rattle.theory.specs.declared.Verdict.{Verdict}
use Rattle.theory.specs.Graph.{SizedGraph, finding_of, list_verdict, steps_of}
use Rattle.report.specs.Report.{report, verdict_line, elements_line, step_lines}
use Rattle.account.specs.Account.{list_report, report_by, report_of}
use Rattle.steps.specs.Records.{plan_steps}

-- a report of n elements and e constraints with these steps: after its two first lines stand the lines of the steps, and then those of the clusters
pub record Lines (n e : ℕ) (v : Verdict) (steps : List Step) (bytes : List ℕ) : Type 0 where
  pub clusters : List ℕ
  pub bytes_are : bytes ≡ verdict_line v ++ (elements_line n e ++ (step_lines steps ++ clusters))

module _ (g : SizedGraph) where
  -- of every list of merges, so of a saved plan
  pub list-lines : (p : List Merge) → Lines g.graph.n (length g.graph.clusters) (list_verdict g.graph p) (steps_of g p) (list_report g p)
  unfolding list_report report
  list-lines p = record { clusters = _; bytes_are = refl }

  -- and of the engine's plan
  pub plan-lines : finding_of g.graph ≡ Fine → Lines g.graph.n (length g.graph.clusters) (list_verdict g.graph (plan_of g.graph.clusters)) (plan_steps g) (report_of g)
  unfolding report_of plan_steps
  plan-lines q = let l = list-lines (plan_of g.graph.clusters) in record { clusters = l.clusters; bytes_are = ap (report_by g) q ∙ l.bytes_are }
