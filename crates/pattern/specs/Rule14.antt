-- Rule 14 is not used, of bytes and plans. Document 02, 2026-06: on a sheet that isn't over, two living clusters never
-- share two elements, whatever merges came before; every plan gets the answer that it got with rule 14, and never 14.
use Rattle.std.specs.Prelude.{◌≡◌, ◌≢◌}
use Rattle.theory.specs.Prelude.{ℕ, List, []}
use Rattle.theory.specs.Merge.{Merge, Valid, final, ShareOne}
use Rattle.theory.specs.Graph.{steps_of}
use Rattle.theory.specs.declared.Step.{Step}
use Rattle.sheet.specs.Facts.{Facts}
use Rattle.sheet.specs.Field.{Field, value, refused, next, Bytes}
use Rattle.sheet.specs.Graph.{graph_of, sized_of}
use Rattle.sheet.specs.Answer.{by_rule}
use Rattle.plans.specs.Check.{saved_steps_of}
use Rattle.plans.specs.Rule14.{plan_fault14}
use Rattle.account.specs.Account.{list_report}
use Rattle.pattern.specs.Entries.{held_sheet, check_field, saved_steps_field}
pub mod Proof

-- the plan check as it was, each step tried by 13, 14 and 15, and the steps of a saved plan so
abbrev pub check_field14 : List ℕ → List ℕ → Field (List ℕ)
check_field14 bytes plan =
    next (held_sheet bytes) (λ f rest.
    by_rule (plan_fault14 (graph_of f).clusters plan) (value (list_report (sized_of f) (saved_steps_of plan)) []))

abbrev pub saved_steps_field14 : List ℕ → List ℕ → Field (List Step)
saved_steps_field14 bytes plan =
    next (held_sheet bytes) (λ f rest.
    by_rule (plan_fault14 (graph_of f).clusters plan) (value (steps_of (sized_of f) (saved_steps_of plan)) []))

pub record Rule14 : Type 0 where
  pub living : (bytes rest : List ℕ) (f : Facts) → Bytes bytes → held_sheet bytes ≡ value f rest → (p : List Merge)
      → Valid (graph_of f).clusters p → ShareOne (final (graph_of f).clusters p)
  -- whatever the bytes and the plan
  pub check : (bytes plan : List ℕ) → Bytes bytes → check_field14 bytes plan ≡ check_field bytes plan
  pub saved_steps : (bytes plan : List ℕ) → Bytes bytes → saved_steps_field14 bytes plan ≡ saved_steps_field bytes plan
  pub never : (bytes plan : List ℕ) → check_field bytes plan ≢ refused 14
  pub never_steps : (bytes plan : List ℕ) → saved_steps_field bytes plan ≢ refused 14
