-- The page a buyer reads: what is promised of every list of bytes that `read_sheet` accepts, with its facts f. Document 01, "Verdict names", "Every
-- order of merging", "Clusters and merges" and "The report"; document 02, 2026-04, 2026-08 and 2026-13. Shown by `promises` of Promises/Proof.antt; the
-- contracts of the entry points cite the same fields (Entries).
use Rattle.std.specs.Prelude.{◌+◌, ◌*◌, ◌%◌, ◌≤◌, ◌<◌, ◌≡◌, ◌≢◌, ◌↔◌}
use Rattle.theory.specs.Prelude.{ℕ, true, List, [], map, Option, length}
use Rattle.theory.specs.Set.{◌⊑◌}
use Rattle.theory.specs.Constraints.{Among}
use Rattle.theory.specs.Merge.{Merge, Valid, Maximal, final, joints, live, left}
use Rattle.theory.specs.Plan.{plan_of, IsPlan}
use Rattle.theory.specs.Verdict.{Meets}
use Rattle.theory.specs.Graph.{Graph, SizedGraph, list_verdict, verdict_of, steps_of}
use Rattle.theory.specs.declared.Step.{Step}
use Rattle.theory.specs.declared.Verdict.TheVariants.{Over, Stuck, Under}
use Rattle.sheet.specs.declared.Constraint.{Constraint}
use Rattle.sheet.specs.Facts.{Facts, sheet_of, facts_of}
use Rattle.sheet.specs.Field.{Bytes, value}
use Rattle.sheet.specs.Decode.{read_sheet}
use Rattle.sheet.specs.Answer.{after_to}
use Rattle.sheet.specs.Graph.{graph_of, sized_of}
use Rattle.judge.specs.Judged.{plan_numbers, final_clusters}
use Rattle.plans.specs.Check.{saved_steps_of}
use Rattle.theory.specs.Rests.{rests_on, Rests}
use Rattle.sketch.specs.Runs.{Event, answers_to, after_all, Run}
use Rattle.records.specs.Record.{record_sheet}
use Rattle.records.specs.Runs.{answers_in, all_in, SameFacts}
use Rattle.sheet.specs.Growth.{Grown, NeverSmaller}
use Rattle.account.specs.Account.{list_report}
use Rattle.account.specs.Resting.{words_of, rest_numbers}
use Rattle.theory.specs.Choice.{prices_allowed}
use Rattle.missing.specs.Missing.{pairs_of, Told}
use Rattle.chain.specs.Chain.{Chain}
use Rattle.chain.specs.Answer.{finals_of}
use Rattle.pattern.specs.Entries.{items_field, report_field, verdict_field, held_sheet, check_field, hold_field, chain_field, missing_field}
use Rattle.pattern.specs.Over.{OverTold, OverNext}
use Rattle.pattern.specs.Orders.{InOrders}
use Rattle.pattern.specs.Held.{HeldPage}
pub mod Growth
pub mod Proof

-- ---- the answers are a list's own

-- what the verdict's name says of the list
pub record NameSays (g : Graph) (p : List Merge) : Type 0 where
  pub meets : Meets g.lines g.n (length g.clusters) (joints g.clusters p) (final g.clusters p) (list_verdict g p)
  -- stuck: several are left; under: e is below 2n-3
  pub several : list_verdict g p ≡ Stuck → 2 ≤ left (final g.clusters p)
  pub below : list_verdict g p ≡ Under → length g.clusters + 3 < 2 * g.n

-- the list p stands behind the plan's numbers and the report told
pub record OwnList (bytes : List ℕ) (g : SizedGraph) (p : List Merge) (plan told : List ℕ) : Type 0 where
  pub maximal : Maximal g.graph.clusters p
  pub numbers : saved_steps_of plan ≡ p
  pub verdict : verdict_field bytes ≡ value (list_verdict g.graph p) []
  pub name : NameSays g.graph p
  -- the report is that of the list: its joints, its count of steps, and a line for each cluster that lives at its end
  pub report : told ≡ list_report g p
  pub same_joints : map (λ (s : Step). s.joint) (steps_of g p) ≡ joints g.graph.clusters p
  pub steps : length (steps_of g p) ≡ length p
  -- what `clusters` answers are the sets that live at its end, each one as often as it lives
  pub clusters : (finals : List ℕ) × (items_field final_clusters bytes ≡ value finals [])
      × ((x : ℕ) → Among x finals ↔ live (final g.graph.clusters p) x) × (length finals ≡ left (final g.graph.clusters p))

-- ---- a held sketch (document 02, 2026-05): asks and placings in any mix answer as a plain list of constraints would

pub record HeldRuns (bytes : List ℕ) (f : Facts) : Type 0 where
  -- by value
  pub hold : held_sheet bytes ≡ value f []
  pub value_runs : (events : List Event) → Run (sheet_of f) events
  -- in lent bytes with room for every held sketch: the same answers, and the same facts after them
  pub lent_runs : (lent : List ℕ) → 1155 ≤ length lent → (events : List Event)
      → (answers_in (after_to (hold_field bytes) lent) events ≡ answers_to (sheet_of f) events)
      × SameFacts (all_in (after_to (hold_field bytes) lent) events) (after_all (sheet_of f) events)

-- ---- more dimensions, never a smaller part (document 02, 2026-13): the new bytes are a sheet with the same elements, the same constraints and more

pub record GrownTold (bytes new : List ℕ) (f g : Facts) : Type 0 where
  -- the old sheet isn't over either, and its parts stay whole for each order of merging on either side
  pub parts : NeverSmaller f g
  -- each of the sets that `clusters` answers of the old lies inside exactly one of those that it answers of the new
  pub clusters : (olds news : List ℕ) → items_field final_clusters bytes ≡ value olds [] → items_field final_clusters new ≡ value news []
      → (x : ℕ) → Among x olds → (y : ℕ) × Among y news × (x ⊑ y) × ((z : ℕ) → Among z news → x ⊑ z → z ≡ y)

-- placed dimensions: the sketch held from the bytes, by value and in lent bytes, after any run of asks and placings
pub record PlacedTold (bytes : List ℕ) (f : Facts) (events : List Event) : Type 0 where
  pub by_value : NeverSmaller f (facts_of (after_all (sheet_of f) events))
  pub lent : (space : List ℕ) → 1155 ≤ length space
      → (g : Facts) × (record_sheet (all_in (after_to (hold_field bytes) space) events) ≡ value g []) × NeverSmaller f g

-- ---- the chain from one element to another (document 02, 2026-08)

-- the call gives the shortest run of the final clusters, first place by place, or none where there is no run, and nothing else is that
pub record ChainTold (bytes : List ℕ) (g : Graph) (start end : ℕ) : Type 0 where
  pub chain : Option (List ℕ)
  pub given : chain_field bytes start end ≡ value chain []
  pub is : Chain (finals_of g) start end chain
  pub only : (other : Option (List ℕ)) → Chain (finals_of g) start end other → other ≡ chain

-- ---- the page

pub record Promises (bytes : List ℕ) (f : Facts) : Type 0 where
  pub over : OverTold bytes (graph_of f)
  -- and the sketch held from it, after any run of asks and placings, with one constraint more
  pub over_next : verdict_of (graph_of f) ≢ Over → (events : List Event) (c : Constraint)
      → OverNext (after_all (sheet_of f) events) c
  -- every order of merging (demand 3): the bytes with their constraints in any order, and any lists of merges
  pub orders : InOrders bytes f
  -- the engine's plan: at every step the open merge that comes first, compared place by place, until none is open
  pub engine : verdict_of (graph_of f) ≢ Over → (p : List Merge) × (plan told : List ℕ) × (items_field plan_numbers bytes ≡ value plan [])
      × (report_field bytes ≡ value told []) × IsPlan (graph_of f).clusters p
      × OwnList bytes (sized_of f) p plan told
  -- a saved plan is accepted if and only if it is a maximal list of merges
  pub saved : (plan told : List ℕ) → check_field bytes plan ≡ value told [] → OwnList bytes (sized_of f) (saved_steps_of plan) plan told
  pub accepts : verdict_of (graph_of f) ≢ Over → (plan : List ℕ)
      → ((told : List ℕ) × (check_field bytes plan ≡ value told [])) ↔ ((length plan % 3 ≡ 0) × Maximal (graph_of f).clusters (saved_steps_of plan))
  -- the cheapest missing dimensions, for a price list that neither 21 nor 22 refuses (document 02, 2026-02)
  pub missing : verdict_of (graph_of f) ≢ Over → (prices : List ℕ) → length prices ≡ pairs_of (graph_of f).n → prices_allowed prices ≡ true
      → Told (graph_of f) prices (missing_field bytes prices)
  pub chain : verdict_of (graph_of f) ≢ Over → (start end : ℕ) → start < (graph_of f).n → end < (graph_of f).n → ChainTold bytes (graph_of f) start end
  pub runs : verdict_of (graph_of f) ≢ Over → HeldRuns bytes f
  -- what clusters rest on, after any list of merges of a sheet that isn't over (document 02, 2026-04); `rests` answers it of the engine's plan, in words
  pub rests : verdict_of (graph_of f) ≢ Over → (p : List Merge) → Valid (graph_of f).clusters p → Rests (graph_of f).clusters p
  pub words : verdict_of (graph_of f) ≢ Over → items_field rest_numbers bytes
      ≡ value (words_of (final (graph_of f).clusters (plan_of (graph_of f).clusters))
      (rests_on (length (graph_of f).clusters) (plan_of (graph_of f).clusters))) []
  -- another accepted sheet with more dimensions that isn't over, and the sketch held from this one with what was placed (document 02, 2026-13)
  pub grown : (new rest : List ℕ) (g : Facts) → Bytes new → read_sheet new ≡ value g rest → Grown f g → verdict_of (graph_of g) ≢ Over
      → GrownTold bytes new f g
  pub placed : verdict_of (graph_of f) ≢ Over → (events : List Event) → PlacedTold bytes f events
  -- what is answered of the sketch held from it, by value and in lent bytes, after any run of asks and placings (document 02, 2026-04 and 2026-05)
  pub held : verdict_of (graph_of f) ≢ Over → (events : List Event) → HeldPage bytes f events
