-- No number that a function for C answers is cut at 2^31-1 (`as_count` of Numbers): it is the count of items itself, or
-- the place of the verdict, whatever the call is given. Demand 1: no input makes it lose part of a number. The counts
-- are those of `pattern` Counts.
use Rattle.std.specs.Prelude.{◌%◌, ◌≡◌}
use Rattle.theory.specs.Prelude.{ℕ, List, ℤ, pos}
use Rattle.space.specs.Written.{Written}
use Rattle.space.specs.Written.{Done}
use Rattle.sheet.specs.declared.Constraint.{Constraint}
use Rattle.sheet.specs.Field.{Field, Bytes}
use Rattle.sheet.specs.Answer.{answer_to}
use Rattle.judge.specs.Judged.{plan_numbers, final_clusters}
use Rattle.account.specs.Resting.{rest_numbers}
use Rattle.card.specs.Card.{set_verdict}
use Rattle.chain.specs.Answer.{chain_to}
use Rattle.longest.specs.Longest.{longest_field}
use Rattle.steps.specs.Records.{numbers_field}
use Rattle.sketch.specs.Judgement.{Is}
use Rattle.records.specs.Record.{as_judgement, ask_field, place_field, placed_in, held_record, sheet_field}
use Rattle.held.specs.Held.{held_count_of, held_items_of}
use Rattle.pattern.specs.Entries.{items_field, report_field, rewrite_field, verdict_field, over_numbers, initial_clusters, check_field}
use Rattle.pattern.specs.Entries.{hold_field}
use Rattle.pattern.specs.Entries.{steps_field, saved_steps_field, part_of, part_field, count_of, chain_field, missing_field}
use Rattle.pattern.specs.Entries.{open_merges_field}
use Rattle.pattern_c.specs.Numbers.{as_count, as_number, as_items}
use Rattle.pattern_c.specs.Columns.{columns_field}
pub mod Proof

-- where n is written, n is told
abbrev pub Whole : Written → Type 0
Whole w = (n : ℕ) → w ≡ Done n → as_count w ≡ pos n

-- whatever space is lent
abbrev pub Uncut : Field (List ℕ) → Type 0
Uncut x = (space : List ℕ) → Whole (answer_to x space)

-- a row for each function
pub record NoneCut : Type 0 where
  pub rewrite : (bytes : List ℕ) → Bytes bytes → Uncut (rewrite_field bytes)
  pub write : (opening n e : ℕ) (kinds radii firsts seconds maps : List ℕ) (sizes : List ℤ)
      → Uncut (columns_field opening n e kinds radii firsts seconds maps sizes)
  pub over : (bytes : List ℕ) → Uncut (items_field over_numbers bytes)
  pub verdict : (bytes : List ℕ) → Whole (as_number (as_judgement (verdict_field bytes)))
  pub plan : (bytes : List ℕ) → Bytes bytes → Uncut (items_field plan_numbers bytes)
  pub initial : (bytes : List ℕ) → Bytes bytes → Uncut (items_field initial_clusters bytes)
  pub clusters : (bytes : List ℕ) → Bytes bytes → Uncut (items_field final_clusters bytes)
  pub rests : (bytes : List ℕ) → Bytes bytes → Uncut (items_field rest_numbers bytes)
  pub report : (bytes : List ℕ) → Bytes bytes → Uncut (report_field bytes)
  pub check_plan : (bytes plan : List ℕ) → Bytes bytes → Uncut (check_field bytes plan)
  pub steps : (bytes : List ℕ) → Bytes bytes → Uncut (numbers_field (steps_field bytes))
  pub saved_steps : (bytes plan : List ℕ) → Bytes bytes → Uncut (numbers_field (saved_steps_field bytes plan))
  pub hold : (bytes : List ℕ) → Bytes bytes → Uncut (hold_field bytes)
  pub ask : (lent : List ℕ) (c : Constraint) → Whole (as_number (as_judgement (ask_field lent c)))
  pub place : (lent : List ℕ) (c : Constraint) (held : ℕ) → Whole (as_number (placed_in (place_field lent c held) lent))
  pub held : (lent : List ℕ) → Bytes lent → Uncut (sheet_field lent)
  pub held_count : (lent : List ℕ) → Bytes lent → Whole (held_count_of (held_record lent))
  pub held_clusters : (lent : List ℕ) → Bytes lent → Uncut (held_items_of final_clusters (held_record lent))
  pub held_rests : (lent : List ℕ) → Bytes lent → Uncut (held_items_of rest_numbers (held_record lent))
  pub part_steps : (bytes : List ℕ) (c : ℕ) → Bytes bytes → Whole (count_of (part_of bytes c))
  pub part_bytes : (bytes : List ℕ) (c : ℕ) → Bytes bytes → Whole (count_of (part_field bytes c))
  pub part : (bytes : List ℕ) (c : ℕ) → Bytes bytes → Uncut (part_field bytes c)
  pub chain : (bytes : List ℕ) (start end : ℕ) (space : List ℕ) → Whole (as_items (chain_to (chain_field bytes start end) space))
  pub missing : (bytes prices : List ℕ) → Bytes bytes → Uncut (missing_field bytes prices)
  pub card : (number : ℕ) → Whole (as_number (Is (set_verdict 5 (number % 1024))))
  pub longest : (n : ℕ) → Uncut (longest_field n)
  pub open_merges : (bytes : List ℕ) (steps : ℕ) → Bytes bytes → Uncut (open_merges_field bytes steps)
