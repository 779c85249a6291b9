-- Over, of all that meets it: some set of m ≥ 2 elements carries more than 2m-3 constraints (demand 2). Document 01,
-- "Verdict names": over is tried first, and of an over sheet no plan is made and no final cluster is given; "Refused":
-- rule 11; "A held sketch"; document 02.
use Rattle.std.specs.Prelude.{◌≡◌, ◌↔◌, ◌∷◌}
use Rattle.theory.specs.Prelude.{ℕ, List, [], length}
use Rattle.theory.specs.Over.{IsOver, FirstOver}
use Rattle.theory.specs.Graph.{Graph}
use Rattle.theory.specs.declared.Verdict.TheVariants.{Over}
use Rattle.space.specs.Written.{Refused}
use Rattle.sheet.specs.declared.Constraint.{Constraint}
use Rattle.sheet.specs.declared.Sheet.{Sheet}
use Rattle.sheet.specs.Facts.{Facts, facts_of}
use Rattle.sheet.specs.Field.{Field, value, refused}
use Rattle.sheet.specs.Rules.{constraint_fault}
use Rattle.sheet.specs.Graph.{graph_of}
use Rattle.judge.specs.Judged.{plan_numbers, final_clusters}
use Rattle.report.specs.Report.{over_report}
use Rattle.sketch.specs.Judgement.{Refused as Not}
use Rattle.sketch.specs.Sketch.{extended, ask_answer, place_answer}
use Rattle.records.specs.Record.{ask_field, place_field, placed_in}
use Rattle.records.specs.Runs.{SameFacts}
use Rattle.account.specs.Resting.{rest_numbers}
use Rattle.pattern.specs.Entries.{items_field, report_field, verdict_field, over_numbers, held_sheet, check_field, hold_field}
use Rattle.pattern.specs.Entries.{missing_field}
use Rattle.pattern.specs.Entries.{steps_field, saved_steps_field, part_of, part_field, count_of, chain_field}
use Rattle.pattern.specs.Entries.{open_merges_field}
pub mod Held
pub mod Proof

-- ---- an accepted sheet

-- refused by 11 if and only if the sheet is over
abbrev pub Meets11 : {A : Type 0} → Graph → Field A → Type 0
Meets11 g x = IsOver g.clusters ↔ (x ≡ refused 11)

pub record OverTold (bytes : List ℕ) (g : Graph) : Type 0 where
  -- the verdict is over
  pub verdict : IsOver g.clusters ↔ (verdict_field bytes ≡ value Over [])
  -- the report is the over report
  pub report : IsOver g.clusters
      ↔ ((c x : ℕ) × (report_field bytes ≡ value (over_report g.n (length g.clusters) c x) []))
  -- over answers two items
  pub items : IsOver g.clusters ↔ ((c x : ℕ) × (items_field over_numbers bytes ≡ value (c ∷ x ∷ []) []))
  -- they are the first constraint that makes the listed ones up to it over and the smallest set, and the report names
  -- them
  pub first : (c x : ℕ) → items_field over_numbers bytes ≡ value (c ∷ x ∷ []) []
      → FirstOver g.clusters c x
      × (report_field bytes ≡ value (over_report g.n (length g.clusters) c x) [])
  -- no plan, no final cluster, nothing that it rests on
  pub no_plan : IsOver g.clusters → items_field plan_numbers bytes ≡ value [] []
  pub no_cluster : IsOver g.clusters → items_field final_clusters bytes ≡ value [] []
  pub no_rests : IsOver g.clusters → items_field rest_numbers bytes ≡ value [] []
  -- all else is refused by 11: a plan check and its steps, whatever the plan, and the engine's steps
  pub check : (plan : List ℕ) → Meets11 g (check_field bytes plan)
  pub saved_steps : (plan : List ℕ) → Meets11 g (saved_steps_field bytes plan)
  pub steps : Meets11 g (steps_field bytes)
  -- the steps of one cluster, and how many steps or bytes they are
  pub part : (c : ℕ) → Meets11 g (part_field bytes c)
  pub part_steps : (c : ℕ) → IsOver g.clusters ↔ (count_of (part_of bytes c) ≡ Refused 11)
  pub part_bytes : (c : ℕ) → IsOver g.clusters ↔ (count_of (part_field bytes c) ≡ Refused 11)
  -- the chain, the missing dimensions, the open merges
  pub chain : (start end : ℕ) → Meets11 g (chain_field bytes start end)
  pub missing : (prices : List ℕ) → Meets11 g (missing_field bytes prices)
  pub open_merges : (steps : ℕ) → Meets11 g (open_merges_field bytes steps)
  -- holding, by value and in lent bytes
  pub hold : Meets11 g (held_sheet bytes)
  pub hold_in : Meets11 g (hold_field bytes)

-- ---- a held sketch and one constraint more

-- no earlier rule refuses the constraint, and the sketch with it would be over
abbrev pub OverWith : Facts → Constraint → Type 0
OverWith f c = (constraint_fault f.elements f.constraints c ≡ 0) × IsOver (graph_of (extended f c)).clusters

-- 11 if and only if that is so, by value and in lent bytes of any length
pub record OverNext (s : Sheet) (c : Constraint) : Type 0 where
  pub ask : OverWith (facts_of s) c ↔ (ask_answer s c ≡ Not 11)
  pub place : OverWith (facts_of s) c ↔ (place_answer s c s.e ≡ Not 11)
  pub ask_in : (lent : List ℕ) → SameFacts lent s → OverWith (facts_of s) c ↔ (ask_field lent c ≡ refused 11)
  pub place_in : (lent : List ℕ) → SameFacts lent s
      → OverWith (facts_of s) c ↔ (placed_in (place_field lent c s.e) lent ≡ Not 11)
