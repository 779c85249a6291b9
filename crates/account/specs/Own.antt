-- What the answers say of lists of merges. Document 01, "Every order of merging": the engine's plan and an accepted saved plan are such lists, and
-- the verdict, final clusters, joints and count of steps in the answer are the list's own. Shown from the definitions that the contracts cite, for
-- every accepted sheet, by `own-lists` of Own/Proof.antt.
use Rattle.std.specs.Prelude.{◌%◌, ◌≡◌, ◌≢◌, ◌↔◌}
use Rattle.theory.specs.Prelude.{ℕ, List, map, length}
use Rattle.theory.specs.Merge.{Merge, Maximal, final, joints}
use Rattle.theory.specs.Plan.{plan_of}
use Rattle.theory.specs.Graph.{SizedGraph, list_verdict, verdict_of, steps_of}
use Rattle.theory.specs.Demand.{Agree}
use Rattle.theory.specs.declared.Verdict.TheVariants.{Over}
use Rattle.theory.specs.declared.Step.{Step}
use Rattle.merges.specs.Run.{flat}
use Rattle.engine.specs.Lists.{living_of}
use Rattle.judge.specs.Judged.{plan_numbers, final_clusters}
use Rattle.plans.specs.Check.{saved_steps_of}
use Rattle.plans.specs.Rule14.{Never14}
use Rattle.account.specs.Account.{list_report, report_of, saved_fault}
pub mod Proof

-- the report of a list of merges has the list's own joints and number of steps
pub record ReportsOwn (g : SizedGraph) (p : List Merge) : Type 0 where
  pub same_joints : map (λ (s : Step). s.joint) (steps_of g p) ≡ joints g.graph.clusters p
  pub steps : length (steps_of g p) ≡ length p

-- one maximal list of merges stands behind all that the engine answers of a sheet
pub record EngineList (g : SizedGraph) : Type 0 where
  pub p : List Merge
  pub maximal : Maximal g.graph.clusters p
  pub plan : plan_numbers g.graph ≡ flat p
  pub clusters : final_clusters g.graph ≡ living_of (final g.graph.clusters p)
  pub verdict : verdict_of g.graph ≡ list_verdict g.graph p
  pub report : report_of g ≡ list_report g p
  pub own : ReportsOwn g p

-- a saved plan is accepted if and only if it is a maximal list of merges of a sheet that is not over; it then comes to the same as the engine's
pub record SavedList (g : SizedGraph) (l : List ℕ) : Type 0 where
  pub accepted : (saved_fault g.graph l ≡ 0) ↔ ((verdict_of g.graph ≢ Over) × (length l % 3 ≡ 0) × Maximal g.graph.clusters (saved_steps_of l))
  pub same : saved_fault g.graph l ≡ 0 → Agree g.graph g.graph (plan_of g.graph.clusters) (saved_steps_of l)
  pub own : saved_fault g.graph l ≡ 0 → ReportsOwn g (saved_steps_of l)

pub record OwnLists (g : SizedGraph) : Type 0 where
  pub engine : verdict_of g.graph ≢ Over → EngineList g
  pub saved : (l : List ℕ) → SavedList g l
  -- request 2026-06: two living clusters never share two elements, and the plan check answers every list of numbers as it did with rule 14
  pub rule_14 : verdict_of g.graph ≢ Over → Never14 g.graph.clusters
