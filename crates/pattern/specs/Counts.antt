-- How many items a call answers at most, whatever the bytes: a report, a sheet and a list are short, so that no count for C is cut (`as_count` of
-- `pattern_c` Numbers). Document 01, "Refused", rule 17, asks for space of that length. Shown by `counts` of Counts/Proof.antt.
use Rattle.std.specs.Prelude.{◌≤◌, ◌≡◌}
use Rattle.theory.specs.Prelude.{ℕ, List, some, length}
use Rattle.sheet.specs.declared.Constraint.{Constraint}
use Rattle.sheet.specs.declared.Sheet.{Sheet}
use Rattle.sheet.specs.Field.{Field, value, Bytes}
use Rattle.judge.specs.Judged.{plan_numbers, final_clusters}
use Rattle.writer.specs.Write.{write_field}
use Rattle.account.specs.Resting.{rest_numbers}
use Rattle.longest.specs.Longest.{longest_field}
use Rattle.steps.specs.Records.{numbers_field}
use Rattle.space.specs.Written.{Done}
use Rattle.records.specs.Record.{place_field, written_field, held_record, sheet_field}
use Rattle.held.specs.Held.{held_count_of, held_items_of}
use Rattle.pattern.specs.Entries.{items_field, report_field, rewrite_field, over_numbers, initial_clusters, check_field, steps_field, saved_steps_field, hold_field}
use Rattle.pattern.specs.Entries.{part_of, part_field, chain_field, missing_field}
use Rattle.pattern.specs.Entries.{open_merges_field}
pub mod Proof

abbrev pub AtMost : {A : Type 0} → ℕ → Field (List A) → Type 0
AtMost {A} most x = (items : List A) (rest : List ℕ) → x ≡ value items rest → length items ≤ most

pub record Counts : Type 0 where
  pub report : (bytes : List ℕ) → Bytes bytes → AtMost 4667 (report_field bytes)
  pub missing : (bytes prices : List ℕ) → Bytes bytes → AtMost 125 (missing_field bytes prices)
  pub check : (bytes plan : List ℕ) → Bytes bytes → AtMost 4667 (check_field bytes plan)
  pub plan : (bytes : List ℕ) → Bytes bytes → AtMost 186 (items_field plan_numbers bytes)
  pub initial : (bytes : List ℕ) → Bytes bytes → AtMost 200 (items_field initial_clusters bytes)
  pub clusters : (bytes : List ℕ) → Bytes bytes → AtMost 125 (items_field final_clusters bytes)
  pub rests : (bytes : List ℕ) → Bytes bytes → AtMost 250 (items_field rest_numbers bytes)
  pub steps : (bytes : List ℕ) → Bytes bytes → AtMost 434 (numbers_field (steps_field bytes))
  pub saved_steps : (bytes plan : List ℕ) → Bytes bytes → AtMost 434 (numbers_field (saved_steps_field bytes plan))
  pub over : (bytes : List ℕ) → AtMost 2 (items_field over_numbers bytes)
  pub rewrite : (bytes : List ℕ) → Bytes bytes → AtMost 1678 (rewrite_field bytes)
  pub write : (s : Sheet) → AtMost 1678 (write_field s)
  -- a record has room for every held sketch where it has that many bytes
  pub hold_in : (bytes : List ℕ) → Bytes bytes → AtMost 1155 (hold_field bytes)
  pub place_in : (lent : List ℕ) (c : Constraint) (held : ℕ) → Bytes lent → AtMost 1155 (written_field (place_field lent c held))
  pub held_in : (lent : List ℕ) → Bytes lent → AtMost 1153 (sheet_field lent)
  pub held_count : (lent : List ℕ) (k : ℕ) → Bytes lent → held_count_of (held_record lent) ≡ Done k → k ≤ 125
  pub held_clusters : (lent : List ℕ) → Bytes lent → AtMost 125 (held_items_of final_clusters (held_record lent))
  pub held_rests : (lent : List ℕ) → Bytes lent → AtMost 250 (held_items_of rest_numbers (held_record lent))
  pub part : (bytes : List ℕ) (c : ℕ) → Bytes bytes → AtMost 3534 (part_field bytes c)
  pub part_steps : (bytes : List ℕ) (c : ℕ) → Bytes bytes → AtMost 62 (part_of bytes c)
  pub chain : (bytes : List ℕ) (start end : ℕ) (run rest : List ℕ) → chain_field bytes start end ≡ value (some run) rest → length run ≤ 63
  pub open_merges : (bytes : List ℕ) (steps : ℕ) → Bytes bytes → AtMost 186 (open_merges_field bytes steps)
  pub longest : (n : ℕ) → AtMost 889 (longest_field n)
