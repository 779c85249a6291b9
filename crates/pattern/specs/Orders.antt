-- Every order of the constraints, over bytes. Document 01, "Every order of merging": in whichever order a sheet's
-- constraints stand, "what precedes the constraints, and each constraint's own fields, stay", and every list of merges
-- comes to the same verdict, final clusters, joints and count of steps.
use Rattle.std.specs.Prelude.{◌+◌, ◌≡◌, ◌≢◌, ◌↔◌, ◌∷◌, ◌++◌}
use Rattle.theory.specs.Prelude.{ℕ, zero, suc, List, [], map, ones, length, take, drop}
use Rattle.theory.specs.Constraints.{Among, Perm}
use Rattle.theory.specs.Merge.{Merge, Valid, Maximal, joints}
use Rattle.theory.specs.Plan.{plan_of}
use Rattle.theory.specs.Graph.{SizedGraph, verdict_of}
use Rattle.theory.specs.Demand.{Agree, Demand3}
use Rattle.theory.specs.declared.Step.{Step}
use Rattle.theory.specs.declared.Verdict.TheVariants.{Over}
use Rattle.sheet.specs.Facts.{Facts}
use Rattle.sheet.specs.Field.{Field, value}
use Rattle.sheet.specs.Decode.{read_sheet}
use Rattle.sheet.specs.WithoutTags.{size_length, tag_length, before, listed}
use Rattle.sheet.specs.Graph.{graph_of, sized_of, reordered}
use Rattle.judge.specs.Judged.{plan_numbers, final_clusters}
use Rattle.plans.specs.Check.{saved_steps_of}
use Rattle.account.specs.Account.{list_report}
use Rattle.pattern.specs.Entries.{items_field, report_field, verdict_field, check_field, steps_field, saved_steps_field}
pub mod Local
pub mod Read
pub mod Proof

-- ---- the bytes of a sheet in another order

-- each constraint's own bytes: its two ends, its bit map, its size and its tag
unfoldable pub own_bytes : ℕ → List ℕ → List (List ℕ)
own_bytes zero s = []
own_bytes (suc e) (first ∷ second ∷ map ∷ s) =
    (first ∷ second ∷ map ∷ take (size_length map + tag_length map) s) ∷ own_bytes e
    (drop (size_length map + tag_length map) s)
own_bytes (suc e) [] = []
own_bytes (suc e) (first ∷ []) = []
own_bytes (suc e) (first ∷ second ∷ []) = []

abbrev pub constraints_of : List ℕ → List (List ℕ)
constraints_of s = own_bytes (listed s) (drop (before s) s)

unfoldable pub joined : List (List ℕ) → List ℕ
joined [] = []
joined (p ∷ ps) = p ++ joined ps

-- what precedes the constraints, and then these
abbrev pub in_order : List ℕ → List (List ℕ) → List ℕ
in_order s ps = take (before s) s ++ joined ps

-- ---- two answers that say the same

-- both answer, and what they answer is alike
pub record Both {A : Type 0} (x y : Field A) (Alike : A → A → Type 0) : Type 0 where
  pub one : A
  pub other : A
  pub one_is : x ≡ value one []
  pub other_is : y ≡ value other []
  pub alike : Alike one other

-- as sets, each one as often
abbrev pub SameSets : List ℕ → List ℕ → Type 0
SameSets xs ys = ((x : ℕ) → Among x xs ↔ Among x ys) × (length xs ≡ length ys)

-- steps with the same joints, and as many
abbrev pub SameSteps : List Step → List Step → Type 0
SameSteps ss ts = SameSets (map (λ (s : Step). s.joint) ss) (map (λ (s : Step). s.joint) ts)

-- reports of lists of merges that come to the same
pub record SameReports (g h : SizedGraph) (told also : List ℕ) : Type 0 where
  pub p : List Merge
  pub q : List Merge
  pub told_is : told ≡ list_report g p
  pub also_is : also ≡ list_report h q
  pub agree : Agree g.graph h.graph p q

-- ---- the bytes of a sheet that isn't over, and the same with its constraints in another order

pub record SameAnyOrder (bytes new : List ℕ) (g h : SizedGraph) : Type 0 where
  pub not_over : verdict_of h.graph ≢ Over
  pub verdict : verdict_field new ≡ verdict_field bytes
  pub clusters : Both (items_field final_clusters bytes) (items_field final_clusters new) SameSets
  pub plan : Both (items_field plan_numbers bytes) (items_field plan_numbers new)
      (λ a b. Agree g.graph h.graph (saved_steps_of a) (saved_steps_of b))
  pub report : Both (report_field bytes) (report_field new) (SameReports g h)
  pub steps : Both (steps_field bytes) (steps_field new) SameSteps
  -- a saved plan that is accepted in that order comes to what the engine's own plan does
  pub saved : (plan told : List ℕ) → check_field new plan ≡ value told []
      → (told ≡ list_report h (saved_steps_of plan)) × Agree g.graph h.graph (plan_of g.graph.clusters) (saved_steps_of plan)
  pub saved_steps : (plan : List ℕ) (steps : List Step) → saved_steps_field new plan ≡ value steps []
      → Both (steps_field bytes) (saved_steps_field new plan) SameSteps
  -- and so do every two maximal lists of merges
  pub lists : (p q : List Merge) → Maximal g.graph.clusters p → Maximal h.graph.clusters q
      → Agree g.graph h.graph p q
  -- each joint is three elements
  pub three : (p : List Merge) → Valid h.graph.clusters p → (j : ℕ) → Among j (joints h.graph.clusters p) → ones j ≡ 3
  -- either way round, e = left + 2 · steps and the other counts, for every list of merges
  pub whole : Demand3 h.graph

pub record Reordered (bytes : List ℕ) (f : Facts) (ps : List (List ℕ)) : Type 0 where
  -- they are accepted, with the same constraints in another order
  pub facts : Facts
  pub constraints : Perm f.constraints facts.constraints
  pub facts_are : facts ≡ reordered f facts.constraints
  pub accepted : read_sheet (in_order bytes ps) ≡ value facts []
  -- and answered alike
  pub answers : verdict_of (graph_of f) ≢ Over → SameAnyOrder bytes (in_order bytes ps) (sized_of f) (sized_of facts)

pub record InOrders (bytes : List ℕ) (f : Facts) : Type 0 where
  -- in their own order the bytes are what they are
  pub own : in_order bytes (constraints_of bytes) ≡ bytes
  pub every : (ps : List (List ℕ)) → Perm (constraints_of bytes) ps → Reordered bytes f ps
