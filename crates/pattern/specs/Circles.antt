-- What is promised of circles of known radius (document 02, 2026-01): "A round light must get the verdict and plan of the sketch of its centres", and
-- PF01 sheets stay what document 01 alone says. `sheet` Centres and First say what these are.
use Rattle.std.specs.Prelude.{◌≤◌, ◌<◌, ◌≡◌}
use Rattle.theory.specs.Prelude.{ℕ, true, false, List, [], map, nat_abs, length, get_or}
use Rattle.theory.specs.Graph.{Graph, verdict_of}
use Rattle.sheet.specs.declared.Opening.TheVariants.{Pf01, Pf02}
use Rattle.sheet.specs.declared.Constraint.{Constraint}
use Rattle.sheet.specs.declared.Sheet.{Sheet}
use Rattle.sheet.specs.Facts.{Facts, blank_constraint, sheet_of, facts_of}
use Rattle.sheet.specs.Rules.{constraint_fault}
use Rattle.sheet.specs.Field.{Field, value, refused, opening_bytes, begins, Bytes}
use Rattle.sheet.specs.Decode.{read_sheet}
use Rattle.sheet.specs.Encode.{sheet_bytes}
use Rattle.sheet.specs.Accepted.{Accepted}
use Rattle.sheet.specs.Answer.{by_rule}
use Rattle.sheet.specs.Graph.{size_in, graph_of, sized_of, over_fault}
use Rattle.sheet.specs.Refusals.{Rule}
use Rattle.sheet.specs.Centres.{centre_constraint, centres, Contacts, is_contact, Derived}
use Rattle.sheet.specs.First.{read_first, size_given, first_bytes}
use Rattle.account.specs.Account.{report_of, saved_field}
use Rattle.part.specs.Part.{cluster_field, lines_field}
use Rattle.steps.specs.Records.{plan_steps, saved_records}
use Rattle.chain.specs.Answer.{asked}
use Rattle.missing.specs.Missing.{cheapest_field}
use Rattle.opens.specs.Opens.{open_field}
use Rattle.sketch.specs.Judgement.{Judgement}
use Rattle.sketch.specs.Sketch.{extended, as_judged, ask_answer, place_answer}
use Rattle.sketch.specs.Runs.{Held}
use Rattle.records.specs.Record.{as_judgement, ask_field}
use Rattle.records.specs.Runs.{SameFacts}
use Rattle.pattern.specs.Entries.{items_field, report_field, verdict_field, check_field, steps_field, saved_steps_field, part_of}
use Rattle.pattern.specs.Entries.{part_field, chain_field, missing_field, open_merges_field}
pub mod Proof

-- ---- a round light and the sketch of its centres

-- two sheets with one sized graph: the verdict; over, plan, initial and final clusters, what these rest on; report; saved
-- plans and step records; the steps of one cluster; the chain, the missing dimensions, the open merges
pub record SameGraph (a b : List ℕ) : Type 0 where
  pub verdict : verdict_field a ≡ verdict_field b
  pub items : (what : Graph → List ℕ) → items_field what a ≡ items_field what b
  pub report : report_field a ≡ report_field b
  pub check : (plan : List ℕ) → check_field a plan ≡ check_field b plan
  pub steps : steps_field a ≡ steps_field b
  pub saved_steps : (plan : List ℕ) → saved_steps_field a plan ≡ saved_steps_field b plan
  pub part : (c : ℕ) → part_field a c ≡ part_field b c
  pub part_steps : (c : ℕ) → part_of a c ≡ part_of b c
  pub chain : (start end : ℕ) → chain_field a start end ≡ chain_field b start end
  pub missing : (prices : List ℕ) → missing_field a prices ≡ missing_field b prices
  pub open_merges : (steps : ℕ) → open_merges_field a steps ≡ open_merges_field b steps

-- the rule of 6 to 9 and 20 that refuses one constraint more, 0 where none does
abbrev pub taken : Facts → Constraint → ℕ
taken f c = constraint_fault f.elements f.constraints c

abbrev pub listed : Facts → ℕ → Constraint
listed f i = get_or f.constraints i blank_constraint

-- 11, else what the graph gives
abbrev pub unless_over : {A : Type 0} → Graph → Field A → Field A
unless_over g x = by_rule (over_fault g) x

pub record Round (bytes : List ℕ) (f : Facts) : Type 0 where
  -- the answers are those of the sized graph of its centres
  pub verdict : verdict_field bytes ≡ value (verdict_of (graph_of (centres f))) []
  pub items : (what : Graph → List ℕ) → items_field what bytes ≡ value (what (graph_of (centres f))) []
  pub report : report_field bytes ≡ value (report_of (sized_of (centres f))) []
  pub check : (plan : List ℕ)
      → check_field bytes plan ≡ unless_over (graph_of (centres f)) (saved_field (sized_of (centres f)) plan)
  pub steps : steps_field bytes ≡ unless_over (graph_of (centres f)) (value (plan_steps (sized_of (centres f))) [])
  pub saved_steps : (plan : List ℕ)
      → saved_steps_field bytes plan ≡ unless_over (graph_of (centres f)) (saved_records (sized_of (centres f)) plan)
  pub part : (c : ℕ) → part_field bytes c
      ≡ lines_field (unless_over (graph_of (centres f)) (cluster_field (sized_of (centres f)) c))
  pub part_steps : (c : ℕ) → part_of bytes c ≡ unless_over (graph_of (centres f)) (cluster_field (sized_of (centres f)) c)
  pub chain : (start end : ℕ)
      → chain_field bytes start end ≡ unless_over (graph_of (centres f)) (asked (graph_of (centres f)) start end)
  pub missing : (prices : List ℕ) → missing_field bytes prices
      ≡ unless_over (graph_of (centres f)) (cheapest_field (graph_of (centres f)) prices)
  pub open_merges : (steps : ℕ)
      → open_merges_field bytes steps ≡ unless_over (graph_of (centres f)) (open_field (graph_of (centres f)) steps)
  -- and of the sheet of its centres, which no rule refuses where no distance of a contact is above 40,000
  pub sheet : ((i : ℕ) → i < length f.constraints → is_contact (listed f i).size ≡ true → nat_abs (size_in f.elements (listed f i)) ≤ 40000)
      → Accepted (centres f) × SameGraph bytes (sheet_bytes (centres f))
  -- the distance of a contact, whichever end is first; it is never 0 and at most 80,000
  pub contacts : (c : Constraint) → Contacts f.elements c
  pub derived : (i : ℕ) → i < length f.constraints → is_contact (listed f i).size ≡ true → Derived (size_in f.elements (listed f i))

-- ---- a held sketch with circles, and one constraint more that 6 to 9 and 20 take

-- what the sheet with it is answered, from the sketch of its centres: 11, else its verdict
abbrev pub judged_by : Facts → Judgement
judged_by f = as_judged (over_fault (graph_of (centres f))) (verdict_of (graph_of (centres f)))

pub record RoundHeld (s : Sheet) (c : Constraint) : Type 0 where
  pub ask : ask_answer s c ≡ judged_by (extended (facts_of s) c)
  pub place : place_answer s c s.e ≡ judged_by (extended (facts_of s) c)
  pub ask_in : (lent : List ℕ) → SameFacts lent s → as_judgement (ask_field lent c) ≡ judged_by (extended (facts_of s) c)
  -- the sketch of centres with it is the held sketch of centres with the constraint between the centres, which answers
  -- so where it takes that one
  pub with_it : centres (extended (facts_of s) c)
      ≡ extended (centres (facts_of s)) (centre_constraint (facts_of s).elements c)
  pub same : Held (sheet_of (centres (facts_of s)))
      → taken (centres (facts_of s)) (centre_constraint (facts_of s).elements c) ≡ 0
      → ask_answer (sheet_of (centres (facts_of s))) (centre_constraint (facts_of s).elements c) ≡ ask_answer s c

-- ---- PF01

pub record Circles : Type 0 where
  pub round : (bytes rest : List ℕ) (f : Facts) → Bytes bytes → read_sheet bytes ≡ value f rest → Round bytes f
  pub held : (s : Sheet) (c : Constraint) → Held s → taken (facts_of s) c ≡ 0 → RoundHeld s c
  -- bytes that don't open PF02 are read as document 01 alone reads them; those that open PF01 are refused by 1 to 10 alone, and have at most 1,814
  pub first_read : (bytes : List ℕ) → begins (opening_bytes Pf02) bytes ≡ false → read_sheet bytes ≡ read_first bytes
  pub first_rules : (bytes : List ℕ) (k : ℕ) → begins (opening_bytes Pf01) bytes ≡ true → read_sheet bytes ≡ refused k → Rule 1 10 k
  pub first_most : (bytes rest : List ℕ) (f : Facts) → begins (opening_bytes Pf01) bytes ≡ true → Bytes bytes → read_sheet bytes ≡ value f rest
      → length bytes ≤ 1814
  -- PF01 facts are written as document 01 alone writes them, in at most 1,414 bytes, and a missing size is 0
  pub first_written : (f : Facts) → Accepted f → f.opening ≡ Pf01 → (sheet_bytes f ≡ first_bytes f) × (length (sheet_bytes f) ≤ 1414)
      × ((sized_of f).sizes ≡ map (λ c. size_given c.size) f.constraints)
