-- What is shown of the list of the open merges. Document 02, 2026-07: each once and no other, by the lowest element of the joint, then by document
-- 01's comparison.
use Rattle.std.specs.Prelude.{◌+◌, ◌≤◌, ◌<◌, ◌≡◌, ◌≢◌, ◌↔◌, ◌⊎◌, ◌∷◌}
use Rattle.theory.specs.Prelude.{ℕ, List, [], length, take}
use Rattle.theory.specs.Set.{◌∈◌}
use Rattle.theory.specs.Merge.{Merge, OpenAt, three, joint, final}
use Rattle.theory.specs.Plan.{plan_of, ascending, NotAfter}
use Rattle.theory.specs.Graph.{Graph}
use Rattle.opens.specs.Opens.{open_after}
use Rattle.opens.specs.Opens.Laws.{Listed}
pub mod Proof

-- v is the lowest element of x
abbrev pub IsLowest : ℕ → ℕ → Type 0
IsLowest x v = (v ∈ x) × ((y : ℕ) → y ∈ x → v ≤ y)

-- m comes before r
abbrev pub Before : List ℕ → Merge → Merge → Type 0
Before s m r =
    (v w : ℕ) → IsLowest (joint (three s m)) v → IsLowest (joint (three s r)) w → (v < w) ⊎ ((v ≡ w) × NotAfter m r × (m ≢ r))

-- each comes before all that follow it, so that none stands twice
abbrev pub Ordered : List ℕ → List Merge → Type 0
Ordered s [] = Unit {0}
Ordered s (m ∷ l) = ((r : Merge) → Listed r l → Before s m r) × Ordered s l

-- the clusters after so many of the engine's steps, or after all
abbrev pub clusters_after : Graph → ℕ → List ℕ
clusters_after g steps = final g.clusters (take steps (plan_of g.clusters))

pub record Shown (g : Graph) (steps : ℕ) : Type 0 where
  -- a merge is listed if and only if it is open then, its numbers ascending
  pub listed : (m : Merge) → Listed m (open_after g steps) ↔ (OpenAt (clusters_after g steps) m × (m.i < m.j) × (m.j < m.k))
  pub every : (m : Merge) → OpenAt (clusters_after g steps) m → Listed (ascending m) (open_after g steps)
  pub order : Ordered (clusters_after g steps) (open_after g steps)
  -- no more than the steps that are left to n-2
  pub most : length (open_after g steps) + length (take steps (plan_of g.clusters)) + 2 ≤ g.n
  -- after all steps none
  pub none : length (plan_of g.clusters) ≤ steps → open_after g steps ≡ []
