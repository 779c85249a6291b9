-- What each entry point answers, by the bytes that it is given: a value, or the rule that refuses. `sheet` Answer says what items, or a refusal, give
-- over lent space.
use Rattle.std.specs.Prelude.{ℕ, List, [], ◌∷◌, length}
use Rattle.std.proofs.Math.Option.{Option}
use Rattle.theory.specs.Graph.{Graph, finding_of, verdict_of}
use Rattle.theory.specs.Finding.{Finding}
use Rattle.theory.specs.Finding.{Fine, First}
use Rattle.theory.specs.declared.Verdict.{Verdict}
use Rattle.theory.specs.declared.Step.{Step}
use Rattle.space.specs.Written.{Written}
use Rattle.space.specs.Written.{Done, Refused as Not}
use Rattle.sheet.specs.Facts.{Facts}
use Rattle.sheet.specs.Field.{Field, value, refused, next}
use Rattle.sheet.specs.Decode.{read_sheet}
use Rattle.sheet.specs.WithoutTags.{without_tags}
use Rattle.sheet.specs.Graph.{graph_of, sized_of, over_fault}
use Rattle.sheet.specs.Answer.{by_rule}
use Rattle.missing.specs.Missing.{cheapest_field}
use Rattle.account.specs.Account.{report_of, saved_field}
use Rattle.part.specs.Part.{cluster_field, lines_field}
use Rattle.steps.specs.Records.{plan_steps, saved_records}
use Rattle.chain.specs.Answer.{asked}
use Rattle.opens.specs.Opens.{open_field}
use Rattle.records.specs.Record.{written_field}
pub mod Reading
pub mod Rewriting
pub mod Parts
pub mod Sketches
pub mod Steps
pub mod Chains

-- ---- an accepted sheet (document 01, "Refused": 1 to 10; document 02, 2026-01: 18 to 20)

-- the items that its graph gives
abbrev pub items_field : (Graph → List ℕ) → List ℕ → Field (List ℕ)
items_field what bytes = next (read_sheet bytes) (λ f rest. value (what (graph_of f)) [])

-- its report (document 01, "The report")
abbrev pub report_field : List ℕ → Field (List ℕ)
report_field bytes = next (read_sheet bytes) (λ f rest. value (report_of (sized_of f)) [])

-- reading and writing again gives the same sheet with bit 1 clear and the tag bytes gone (document 02, 2026-11)
abbrev pub rewrite_field : List ℕ → Field (List ℕ)
rewrite_field bytes = next (read_sheet bytes) (λ f rest. value (without_tags bytes) [])

-- its verdict (document 01, "Verdict names")
abbrev pub verdict_field : List ℕ → Field Verdict
verdict_field bytes = next (read_sheet bytes) (λ f rest. value (verdict_of (graph_of f)) [])

-- its initial clusters, one set a constraint, of an over sheet too (document 02, 2026-09)
abbrev pub initial_clusters : Graph → List ℕ
initial_clusters g = g.clusters

-- of an over one the first constraint and the smallest set; no item where it is not over
abbrev pub over_items : Finding → List ℕ
over_items Fine = []
over_items (First c x) = c ∷ x ∷ []

abbrev pub over_numbers : Graph → List ℕ
over_numbers g = over_items (finding_of g)

-- ---- an accepted sheet that is not over (document 01, "Refused": 11)

abbrev pub held : Facts → List ℕ → Field Facts
held f rest = by_rule (over_fault (graph_of f)) (value f rest)

unfoldable pub held_sheet : List ℕ → Field Facts
held_sheet bytes = next (read_sheet bytes) held

-- the steps of one cluster of its plan, by number (document 02, 2026-14), and their lines: 26 of a number that no cluster has
abbrev pub part_of : List ℕ → ℕ → Field (List Step)
part_of bytes c = next (held_sheet bytes) (λ f rest. cluster_field (sized_of f) c)

abbrev pub part_field : List ℕ → ℕ → Field (List ℕ)
part_field bytes c = lines_field (part_of bytes c)

-- how many steps, or bytes, had beforehand: no space is lent, so 17 is not met
abbrev pub count_of : {A : Type 0} → Field (List A) → Written
count_of (value items rest) = Done (length items)
count_of (refused k) = Not k

-- a saved plan checked against it: 12 to 16 of the plan
abbrev pub check_field : List ℕ → List ℕ → Field (List ℕ)
check_field bytes plan = next (held_sheet bytes) (λ f rest. saved_field (sized_of f) plan)

-- the steps of the engine's plan, a record each, and those of a saved plan (document 02, 2026-04)
abbrev pub steps_field : List ℕ → Field (List Step)
steps_field bytes = next (held_sheet bytes) (λ f rest. value (plan_steps (sized_of f)) [])

abbrev pub saved_steps_field : List ℕ → List ℕ → Field (List Step)
saved_steps_field bytes plan = next (held_sheet bytes) (λ f rest. saved_records (sized_of f) plan)

-- the sketch held from it, in the record that its owner lends (document 02, 2026-05); what is asked of the record and placed in it, `records` Record says
abbrev pub hold_field : List ℕ → Field (List ℕ)
hold_field bytes = written_field (held_sheet bytes)

-- the chain of its final clusters from one element to another, or none (document 02, 2026-08): 25 after 11
abbrev pub chain_field : List ℕ → ℕ → ℕ → Field (Option (List ℕ))
chain_field bytes start end = next (held_sheet bytes) (λ f rest. asked (graph_of f) start end)

-- its cheapest missing dimensions (document 02, 2026-02): 21 to 23
abbrev pub missing_field : List ℕ → List ℕ → Field (List ℕ)
missing_field bytes prices = next (held_sheet bytes) (λ f rest. cheapest_field (graph_of f) prices)

-- its merges that are open after so many of the engine's steps, three numbers each (document 02, 2026-07)
abbrev pub open_merges_field : List ℕ → ℕ → Field (List ℕ)
open_merges_field bytes steps = next (held_sheet bytes) (λ f rest. open_field (graph_of f) steps)
