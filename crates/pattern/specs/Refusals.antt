-- Demand 1: nothing is refused except by a numbered rule. Which rules refuse a call of each entry point, for all bytes, plans and lent space.
use Rattle.std.specs.Prelude.{◌≤◌, ◌<◌, ◌≡◌, ◌↔◌, ◌⊎◌, ◌∷◌}
use Rattle.theory.specs.Prelude.{ℕ, List, [], Option, some, length}
use Rattle.theory.specs.Constraints.{Among}
use Rattle.theory.specs.Graph.{Graph}
use Rattle.space.specs.Written.{Refused}
use Rattle.sheet.specs.declared.Constraint.{Constraint}
use Rattle.sheet.specs.declared.Sheet.{Sheet}
use Rattle.sheet.specs.Field.{Field, value, refused, Bytes}
use Rattle.sheet.specs.Decode.{read_sheet}
use Rattle.sheet.specs.Answer.{answer_to}
use Rattle.sheet.specs.Refusals.{Rule, OfSheet, But, By}
use Rattle.sheet.specs.Refusals.Laws.{OfFacts}
use Rattle.writer.specs.Write.{write_field}
use Rattle.sketch.specs.Judgement.{Refused as Not}
use Rattle.sketch.specs.Sketch.{ask_answer, place_answer}
use Rattle.records.specs.Record.{ask_field, place_field, written_field, placed_in, held_record, sheet_field}
use Rattle.held.specs.Held.{held_value, held_count_of, held_items_of}
use Rattle.longest.specs.Longest.{longest_field}
use Rattle.chain.specs.Says.{Refused as No}
use Rattle.chain.specs.Answer.{chain_to}
use Rattle.theory.specs.declared.Step.{Step}
use Rattle.steps.specs.Records.{filled_to}
use Rattle.pattern.specs.Entries.{items_field, report_field, rewrite_field, verdict_field, held_sheet, check_field, steps_field, saved_steps_field, hold_field}
use Rattle.pattern.specs.Entries.{part_of, part_field, missing_field}
use Rattle.pattern.specs.Entries.{chain_field}
use Rattle.pattern.specs.Entries.{open_merges_field}
pub mod Proof

-- the items are more than the space takes
pub record Short (x : Field (List ℕ)) (space : List ℕ) : Type 0 where
  pub items : List ℕ
  pub rest : List ℕ
  pub gives : x ≡ value items rest
  pub longer : length space < length items

pub record ShortList (x : Field (List Step)) (list : List Step) : Type 0 where
  pub steps : List Step
  pub rest : List ℕ
  pub gives : x ≡ value steps rest
  pub longer : length list < length steps

pub record ShortRun (x : Field (Option (List ℕ))) (space : List ℕ) : Type 0 where
  pub run : List ℕ
  pub rest : List ℕ
  pub gives : x ≡ value (some run) rest
  pub longer : length space < length run

-- the rules that refuse an ask
abbrev pub Asking : List ℕ
Asking = 27 ∷ 6 ∷ 7 ∷ 8 ∷ 20 ∷ 9 ∷ 11 ∷ []

-- those of a sheet that is held: 11 too
abbrev pub Holding : ℕ → Type 0
Holding k = Rule 1 11 k ⊎ Rule 18 20 k

-- those of a saved plan too; 14 is not used (request 2026-06)
abbrev pub Checking : ℕ → Type 0
Checking k = But 14 (Rule 1 16) k ⊎ Rule 18 20 k

-- 26 too
abbrev pub Numbered : ℕ → Type 0
Numbered k = Holding k ⊎ (k ≡ 26)

pub record Refusals : Type 0 where
  -- over lent space a call is refused by the rule that refuses its items, or by 17 where the space is shorter than they are
  pub lent : (x : Field (List ℕ)) (space : List ℕ) (k : ℕ) → answer_to x space ≡ Refused k → (x ≡ refused k) ⊎ ((k ≡ 17) × Short x space)
  pub read : (bytes : List ℕ) → By OfSheet (read_sheet bytes)
  pub verdict : (bytes : List ℕ) → By OfSheet (verdict_field bytes)
  pub rewrite : (bytes : List ℕ) → By OfSheet (rewrite_field bytes)
  -- over, plan, initial and final clusters, what these rest on
  pub items : (what : Graph → List ℕ) (bytes : List ℕ) → By OfSheet (items_field what bytes)
  pub report : (bytes : List ℕ) → By OfSheet (report_field bytes)
  -- the writer: no bytes, so not 4
  pub write : (s : Sheet) → By OfFacts (write_field s)
  -- the plan check
  pub check : (bytes plan : List ℕ) → By Checking (check_field bytes plan)
  -- step records, of the engine's plan and of a saved one; over a lent list of records a call is refused so, or by 17 where the list is shorter
  pub steps : (bytes : List ℕ) → By Holding (steps_field bytes)
  pub saved_steps : (bytes plan : List ℕ) → By Checking (saved_steps_field bytes plan)
  pub records : (x : Field (List Step)) (list : List Step) (k : ℕ) → filled_to x list ≡ Refused k → (x ≡ refused k) ⊎ ((k ≡ 17) × ShortList x list)
  pub hold : (bytes : List ℕ) → By Holding (held_sheet bytes)
  -- the cheapest missing dimensions
  pub missing : (bytes prices : List ℕ) → By (λ k. Holding k ⊎ Rule 21 23 k) (missing_field bytes prices)
  -- a held sketch, by value and in lent bytes; placing in those by 17 too
  pub ask : (s : Sheet) (c : Constraint) (k : ℕ) → ask_answer s c ≡ Not k → Among k Asking
  pub place : (s : Sheet) (c : Constraint) (held k : ℕ) → place_answer s c held ≡ Not k → Among k (24 ∷ Asking)
  pub hold_in : (bytes : List ℕ) → By Holding (hold_field bytes)
  pub ask_in : (lent : List ℕ) (c : Constraint) → By (λ k. Among k Asking) (ask_field lent c)
  pub place_in : (lent : List ℕ) (c : Constraint) (held : ℕ) → By (λ k. Among k (24 ∷ Asking)) (place_field lent c held)
  pub held_in : (lent : List ℕ) → By (Rule 27 27) (sheet_field lent)
  -- 17 if and only if the record with the constraint is longer than the lent one
  pub place_in_short : (lent : List ℕ) (c : Constraint) (held : ℕ)
      → (placed_in (place_field lent c held) lent ≡ Not 17) ↔ Short (written_field (place_field lent c held)) lent
  -- how many constraints a held sketch has, its clusters and what they rest on, by value and in lent bytes
  pub held_count : (s : Sheet) (k : ℕ) → held_count_of (held_value s) ≡ Refused k → k ≡ 27
  pub held_count_in : (lent : List ℕ) (k : ℕ) → held_count_of (held_record lent) ≡ Refused k → k ≡ 27
  pub held_items : (what : Graph → List ℕ) (s : Sheet) → By (Rule 27 27) (held_items_of what (held_value s))
  pub held_items_in : (what : Graph → List ℕ) (lent : List ℕ) → By (Rule 27 27) (held_items_of what (held_record lent))
  -- the steps of one cluster, counted beforehand or written; 26 where no cluster has the number
  pub part : (bytes : List ℕ) (c : ℕ) → By Numbered (part_field bytes c)
  pub part_steps : (bytes : List ℕ) (c : ℕ) → By Numbered (part_of bytes c)
  -- the sheet with the longest plan
  pub longest : (n : ℕ) → By (Rule 3 3) (longest_field n)
  -- the chain from one element to another; over lent space it is refused by that rule too, or by 17 where the space is
  -- shorter
  pub chain : (bytes : List ℕ) (start end : ℕ) → By (λ k. Holding k ⊎ (k ≡ 25)) (chain_field bytes start end)
  pub run : (x : Field (Option (List ℕ))) (space : List ℕ) (k : ℕ) → chain_to x space ≡ No k → (x ≡ refused k) ⊎ ((k ≡ 17) × ShortRun x space)
  -- the merges that are open
  pub open_merges : (bytes : List ℕ) (steps : ℕ) → By Holding (open_merges_field bytes steps)
  -- the report program lends 4,667 bytes, so it never prints "refused 17"
  pub program : (bytes space : List ℕ) (k : ℕ) → Bytes bytes → 4667 ≤ length space → answer_to (report_field bytes) space ≡ Refused k
      → OfSheet k
