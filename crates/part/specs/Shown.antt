-- What is shown of the steps of one cluster. Document 02, 2026-14: they are those from which the cluster is made, down to the single constraints;
-- each part's steps stand before the step that uses it.
use Rattle.std.specs.Prelude.{◌+◌, ◌-◌, ◌≤◌, ◌<◌, ◌≡◌, ◌≢◌, ◌↔◌, ◌⊎◌, ◌∷◌}
use Rattle.theory.specs.Prelude.{ℕ, List, [], eqb, ones, length}
use Rattle.theory.specs.Constraints.{Among, Perm, one_if}
use Rattle.theory.specs.Graph.{SizedGraph, steps_of}
use Rattle.theory.specs.Merge.{slot, final, left}
use Rattle.theory.specs.Plan.{plan_of}
use Rattle.theory.specs.declared.Step.{Step}
use Rattle.part.specs.Part.{plan_step, cluster_steps}
pub mod Proof

-- cluster d, which a step makes, is c itself or one from which c is made
pub data MadeFrom (e : ℕ) (step : ℕ → Step) (d : ℕ) : ℕ → Type 0 where
  itself : {c : ℕ} → e ≤ c → d ≡ c → MadeFrom e step d c
  by_i : {c : ℕ} → e ≤ c → MadeFrom e step d (step (c - e)).i → MadeFrom e step d c
  by_j : {c : ℕ} → e ≤ c → MadeFrom e step d (step (c - e)).j → MadeFrom e step d c
  by_k : {c : ℕ} → e ≤ c → MadeFrom e step d (step (c - e)).k → MadeFrom e step d c

-- the step is one of the list
abbrev pub In : Step → List Step → Type 0
In s [] = ⊥
In s (x ∷ l) = (s ≡ x) ⊎ In s l

-- how many steps of the list make cluster d
unfoldable pub times : ℕ → List Step → ℕ
times d [] = 0
times d (s ∷ l) = one_if (eqb s.made d) + times d l

-- each part of a step is initial, or made by a step before it; those of `done` are made before the list
abbrev pub Ready : ℕ → List ℕ → ℕ → Type 0
Ready e done n = (n < e) ⊎ Among n done

abbrev pub Ordered : ℕ → List ℕ → List Step → Type 0
Ordered e done [] = Unit {0}
Ordered e done (s ∷ l) = Ready e done s.i × Ready e done s.j × Ready e done s.k × Ordered e (s.made ∷ done) l

-- of the number c of a cluster
pub record Shown (g : SizedGraph) (c : ℕ) : Type 0 where
  pub exactly : (s : Step)
      → In s (cluster_steps g c)
      ↔ ((d : ℕ) × MadeFrom (length g.graph.clusters) (plan_step g) d c × (s ≡ plan_step g (d - length g.graph.clusters)))
  pub once : (d : ℕ) → times d (cluster_steps g c) ≤ 1
  pub ordered : Ordered (length g.graph.clusters) [] (cluster_steps g c)
  -- in a plan that ends with c alone, the whole plan's steps in another order; of a final cluster of m elements m - 2
  pub whole : left (final g.graph.clusters (plan_of g.graph.clusters)) ≡ 1 → slot (final g.graph.clusters (plan_of g.graph.clusters)) c ≢ 0
      → Perm (cluster_steps g c) (steps_of g (plan_of g.graph.clusters))
  pub steps_elements : slot (final g.graph.clusters (plan_of g.graph.clusters)) c ≢ 0
      → length (cluster_steps g c) + 2 ≡ ones (slot (final g.graph.clusters (plan_of g.graph.clusters)) c)
