-- What is judged of a sheet's graph. Document 01, "Verdict names": over is tried first, and of an over sheet no plan is made and no final cluster is
-- given; the answer names the first constraint and the smallest set. Every other sheet gets the engine's plan and its verdict.
use Rattle.std.specs.Prelude.{ℕ, List, [], map}
use Rattle.theory.specs.Merge.{Merge, final}
use Rattle.theory.specs.Plan.{plan_of, ascending}
use Rattle.theory.specs.Graph.{Graph, finding_of, list_verdict}
use Rattle.theory.specs.Finding.{Finding}
use Rattle.theory.specs.Finding.{Fine, First}
use Rattle.theory.specs.declared.Verdict.{Verdict}
use Rattle.theory.specs.declared.Verdict.TheVariants.{Over}
use Rattle.merges.specs.Run.{Run, flat, run_of}
use Rattle.engine.specs.Lists.{living_of}
pub mod Laws
pub mod Lists
pub mod Short

-- a verdict; of an over sheet the first constraint and the smallest set, and no merge; else the engine's plan
pub record Judged : Type 0 where
  pub verdict : Verdict
  pub first : ℕ
  pub set : ℕ
  pub run : Run

-- a list of merges of the constraints, with its own verdict
unfoldable pub listed : Graph → List Merge → Judged
listed g p = record { verdict = list_verdict g p; first = 0; set = 0; run = run_of g.clusters p }

-- the engine's own plan
abbrev pub planned : Graph → Judged
planned g = listed g (plan_of g.clusters)

abbrev pub over_found : ℕ → ℕ → Judged
over_found c x = record { verdict = Over; first = c; set = x; run = run_of [] [] }

abbrev pub judged_by : Graph → Finding → Judged
judged_by g Fine = planned g
judged_by g (First c x) = over_found c x

unfoldable pub judged_of : Graph → Judged
judged_of g = judged_by g (finding_of g)

-- ---- what the judgement gives as lists

-- the engine's plan: none is made of an over sheet
abbrev pub plan_by : Graph → Finding → List Merge
plan_by g Fine = plan_of g.clusters
plan_by g (First c x) = []

-- three numbers a step, ascending
unfoldable pub plan_numbers : Graph → List ℕ
plan_numbers g = flat (map ascending (plan_by g (finding_of g)))

-- the final clusters: none is given of an over sheet
abbrev pub finals_by : Graph → Finding → List ℕ
finals_by g Fine = living_of (final g.clusters (plan_of g.clusters))
finals_by g (First c x) = []

unfoldable pub final_clusters : Graph → List ℕ
final_clusters g = finals_by g (finding_of g)
