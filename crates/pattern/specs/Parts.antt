-- What is promised of the steps of one cluster, over the bytes of a sheet that may be held. Document 02, 2026-14: its steps and bytes can be had
-- beforehand and equal what is then written; a number not below e plus the steps is refused as 26. `part` Shown says what the steps are.
use Rattle.std.specs.Prelude.{◌+◌, ◌≤◌, ◌<◌, ◌≡◌}
use Rattle.theory.specs.Prelude.{ℕ, List, [], length}
use Rattle.theory.specs.Plan.{plan_of}
use Rattle.theory.specs.declared.Step.{Step}
use Rattle.space.specs.Written.{Done, Refused}
use Rattle.space.specs.Space.{after}
use Rattle.sheet.specs.Facts.{Facts}
use Rattle.sheet.specs.Field.{value, refused, Bytes}
use Rattle.sheet.specs.Graph.{graph_of, sized_of}
use Rattle.sheet.specs.Answer.{answer_to, after_to}
use Rattle.report.specs.Report.{step_lines}
use Rattle.part.specs.Part.{cluster_steps}
use Rattle.part.specs.Shown.{Shown}
use Rattle.pattern.specs.Entries.{held_sheet, part_of, part_field, count_of}
pub mod Proof

-- how many clusters are ever made
abbrev pub clusters_made : Facts → ℕ
clusters_made f = length (graph_of f).clusters + length (plan_of (graph_of f).clusters)

pub record Parts : Type 0 where
  -- space for the bytes had beforehand takes just as many; what is written is what was had; what refuses beforehand refuses then
  pub enough : (bytes space : List ℕ) (c n : ℕ) → count_of (part_field bytes c) ≡ Done n → n ≤ length space
      → answer_to (part_field bytes c) space ≡ Done n
  pub written : (bytes space : List ℕ) (c n : ℕ) → answer_to (part_field bytes c) space ≡ Done n → count_of (part_field bytes c) ≡ Done n
  pub refused_then : (bytes space : List ℕ) (c k : ℕ) → count_of (part_field bytes c) ≡ Refused k → answer_to (part_field bytes c) space ≡ Refused k
  -- the steps had beforehand are those whose lines are then written; what refuses them beforehand refuses then
  pub steps_written : (bytes space : List ℕ) (c n : ℕ) → answer_to (part_field bytes c) space ≡ Done n
      → (steps : List Step)
      × (count_of (part_of bytes c) ≡ Done (length steps))
      × (after_to (part_field bytes c) space ≡ after (step_lines steps) space)
  pub steps_enough : (bytes space : List ℕ) (c m n : ℕ) → count_of (part_of bytes c) ≡ Done m
      → count_of (part_field bytes c) ≡ Done n
      → n ≤ length space → (steps : List Step) × (length steps ≡ m)
      × (after_to (part_field bytes c) space ≡ after (step_lines steps) space)
  pub steps_refused : (bytes space : List ℕ) (c k : ℕ) → count_of (part_of bytes c) ≡ Refused k
      → (count_of (part_field bytes c) ≡ Refused k) × (answer_to (part_field bytes c) space ≡ Refused k)
  -- of a held sheet every number of a cluster is taken, and no other
  pub taken : (bytes rest : List ℕ) (f : Facts) (c : ℕ) → held_sheet bytes ≡ value f rest → c < clusters_made f
      → part_of bytes c ≡ value (cluster_steps (sized_of f) c) []
  pub beyond : (bytes rest : List ℕ) (f : Facts) (c : ℕ) → held_sheet bytes ≡ value f rest → clusters_made f ≤ c → part_of bytes c ≡ refused 26
  pub shown : (bytes rest : List ℕ) (f : Facts) (c : ℕ) → Bytes bytes → held_sheet bytes ≡ value f rest → c < clusters_made f → Shown (sized_of f) c
