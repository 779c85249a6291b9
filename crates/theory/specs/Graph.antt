-- A constraint graph, and what is found of it. Document 01, "Verdict names", "Clusters and merges" and "The report". Assumes nothing.
use Rattle.std.specs.Prelude.{List, [], ◌∷◌, ℕ, ℤ, length}
use Rattle.theory.specs.Over.{over_of}
use Rattle.theory.specs.Merge.{Merge, three, joint, put, final, joints}
use Rattle.theory.specs.Plan.{plan_of, ascending}
use Rattle.theory.specs.Verdict.{judged}
use Rattle.theory.specs.Placement.{joint_kind, ways}
use Rattle.theory.specs.Finding.{Finding}
use Rattle.theory.specs.Finding.{Fine, First}
use Rattle.theory.specs.declared.Verdict.{Verdict}
use Rattle.theory.specs.declared.Verdict.TheVariants.{Over}
use Rattle.theory.specs.declared.Step.{Step}
pub mod Laws
pub mod Short

pub record Graph : Type 0 where
  -- the count of elements, and the set of those that are lines
  pub n : ℕ
  pub lines : ℕ
  -- the initial clusters in the order of the constraints
  pub clusters : List ℕ

-- ---- the verdict

-- not over, or the first constraint that makes it so and the smallest set
abbrev pub finding_of : Graph → Finding
finding_of g = over_of g.n g.clusters

-- that of a list of merges, by the names after over
unfoldable pub list_verdict : Graph → List Merge → Verdict
list_verdict g p = judged g.lines g.n (length g.clusters) (joints g.clusters p) (final g.clusters p)

-- over is tried first; else it is that of the engine's plan
abbrev pub verdict_by : Graph → Finding → Verdict
verdict_by g Fine = list_verdict g (plan_of g.clusters)
verdict_by g (First c x) = Over

unfoldable pub verdict_of : Graph → Verdict
verdict_of g = verdict_by g (finding_of g)

-- ---- the steps of a list of merges, which alone look at sizes

-- a graph with its constraints' sizes, 0 for a missing one
pub record SizedGraph : Type 0 where
  pub graph : Graph
  pub sizes : List ℤ

-- the step m among the clusters s: its parts ascend, and it makes the next number
unfoldable pub step_of : SizedGraph → List ℕ → Merge → Step
step_of g s m = record {
  made = length s;
  i = (ascending m).i;
  j = (ascending m).j;
  k = (ascending m).k;
  joint = joint (three s (ascending m));
  kind = joint_kind g.graph.lines (joint (three s (ascending m)));
  ways = ways g.graph.lines (length g.graph.clusters) g.sizes s (ascending m);
}

unfoldable pub steps_from : SizedGraph → List ℕ → List Merge → List Step
steps_from g s [] = []
steps_from g s (m ∷ p) = step_of g s m ∷ steps_from g (put s m) p

abbrev pub steps_of : SizedGraph → List Merge → List Step
steps_of g p = steps_from g g.graph.clusters p
