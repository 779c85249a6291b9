-- Tags are read and dropped (document 02, 2026-11): every entry point answers as on the sheet without its tags.
use Rattle.std.specs.Prelude.{◌≡◌}
use Rattle.theory.specs.Prelude.{ℕ, List}
use Rattle.theory.specs.Graph.{Graph}
use Rattle.sheet.specs.Facts.{Facts}
use Rattle.sheet.specs.Field.{value, Bytes}
use Rattle.sheet.specs.Decode.{read_sheet}
use Rattle.sheet.specs.WithoutTags.{without_tags}
use Rattle.pattern.specs.Entries.{items_field, report_field, rewrite_field, verdict_field, held_sheet, check_field, steps_field, saved_steps_field, hold_field, missing_field}
use Rattle.pattern.specs.Entries.{open_merges_field, chain_field, part_of, part_field}
pub mod Proof

-- two sheets that no entry point tells apart, whatever else it is given: a call's answer, and what it leaves in lent space, go by its field alone
pub record SameAnswers (a b : List ℕ) : Type 0 where
  pub read : read_sheet a ≡ read_sheet b
  pub verdict : verdict_field a ≡ verdict_field b
  -- over, plan and clusters
  pub items : (what : Graph → List ℕ) → items_field what a ≡ items_field what b
  pub report : report_field a ≡ report_field b
  pub rewrite : rewrite_field a ≡ rewrite_field b
  pub check : (plan : List ℕ) → check_field a plan ≡ check_field b plan
  pub steps : steps_field a ≡ steps_field b
  pub saved_steps : (plan : List ℕ) → saved_steps_field a plan ≡ saved_steps_field b plan
  pub hold : held_sheet a ≡ held_sheet b
  pub missing : (prices : List ℕ) → missing_field a prices ≡ missing_field b prices
  pub hold_in : hold_field a ≡ hold_field b
  pub open_merges : (steps : ℕ) → open_merges_field a steps ≡ open_merges_field b steps
  pub chain : (start end : ℕ) → chain_field a start end ≡ chain_field b start end
  -- the steps of one cluster, counted beforehand or written
  pub part : (c : ℕ) → part_field a c ≡ part_field b c
  pub part_steps : (c : ℕ) → part_of a c ≡ part_of b c

pub record Untagged : Type 0 where
  -- an accepted sheet is answered as the sheet without its tags
  pub sheet : (bytes : List ℕ) (f : Facts) (rest : List ℕ) → Bytes bytes → read_sheet bytes ≡ value f rest → SameAnswers bytes (without_tags bytes)
