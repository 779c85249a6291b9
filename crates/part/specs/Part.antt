-- The steps of one cluster of the engine's own plan. Document 02, 2026-14: each part's steps before the step that uses it, lowest part first, down to
-- the single constraints; an initial cluster gives none; a number not below e plus the steps is refused as 26. Any cluster ever made has a number,
-- merged away or not.
use Rattle.std.specs.Prelude.{ℕ, zero, suc, ◌+◌, ◌-◌, true, false, cond, List, [], ◌∷◌, ◌++◌, ltb, length, get_or}
use Rattle.theory.specs.Graph.{Graph, SizedGraph, steps_of}
use Rattle.theory.specs.Plan.{plan_of}
use Rattle.theory.specs.declared.Step.{Step}
use Rattle.sheet.specs.Field.{Field, value, next}
use Rattle.sheet.specs.Answer.{by_rule}
use Rattle.sheet.specs.Graph.{over_fault}
use Rattle.engine.specs.Steps.{blank_step}
use Rattle.report.specs.Report.{step_lines}
pub mod Laws
pub mod Gather
pub mod Count

-- the steps of cluster c, where the first e clusters are initial and `step t` makes cluster e+t. A part's number is lower than the cluster's, so a
-- depth above c reaches every step.
unfoldable pub under : ℕ → ℕ → (ℕ → Step) → ℕ → List Step
under zero e step c = []
under (suc depth) e step c =
    elim (ltb c e) [
      | true ↦ []
      | false ↦
          under depth e step (step (c - e)).i
          ++ (under depth e step (step (c - e)).j ++ (under depth e step (step (c - e)).k ++ (step (c - e) ∷ [])))
    ]

unfoldable pub part_steps_of : ℕ → (ℕ → Step) → ℕ → List Step
part_steps_of e step c = under (suc c) e step c

-- step t of a graph's plan
abbrev pub plan_step : SizedGraph → ℕ → Step
plan_step g t = get_or (steps_of g (plan_of g.graph.clusters)) t blank_step

unfoldable pub cluster_steps : SizedGraph → ℕ → List Step
cluster_steps g c = part_steps_of (length g.graph.clusters) (plan_step g) c

-- the rule that refuses the number c, 0 if none
abbrev pub number_fault : Graph → ℕ → ℕ
number_fault g c = cond (ltb c (length g.clusters + length (plan_of g.clusters))) 0 26

abbrev pub cluster_field : SizedGraph → ℕ → Field (List Step)
cluster_field g c = by_rule (number_fault g.graph c) (value (cluster_steps g c) [])

-- 11 comes before
abbrev pub held_field : SizedGraph → ℕ → Field (List Step)
held_field g c = by_rule (over_fault g.graph) (cluster_field g c)

-- the report's lines of the steps
abbrev pub lines_field : Field (List Step) → Field (List ℕ)
lines_field x = next x (λ steps rest. value (step_lines steps) [])
