-- `steps::saved_steps` meets its contract: the rule that refuses the plan, else the steps of its merges. Assumes nothing.
use Rattle.std.specs.Prelude.{◌≡◌, Err}
use Rattle.theory.specs.Prelude.{rules, sym, ap, ◌∙◌, ℕ, List, []}
use Rattle.theory.specs.Merge.{Merge}
use Rattle.theory.specs.Graph.{SizedGraph, steps_of}
use Rattle.theory.specs.declared.Rule.{Rule}
use Rattle.theory.specs.Rule.{rule_number}
use Rattle.theory.specs.Rule.Laws.{rule-some as some}
use Rattle.sheet.specs.Field.{value, refused}
use Rattle.sheet.specs.Answer.{by_rule}
use Rattle.sheet.specs.Answer.Laws.{rule-none, rule-some}
use Rattle.sheet.specs.Graph.{over_fault}
use Rattle.graph.specs.Lent.{sized_in}
use Rattle.graph.specs.Lent.Sheets.{counted}
use Rattle.account.specs.Account.{saved_fault}
use Rattle.account.specs.Account.Laws.{room}
use Rattle.account.specs.Saved.{SavedPlan}
use Rattle.account.specs.Saved.Laws.{saved-rule}
use Rattle.steps.specs.Records.{saved_records}
use Rattle.steps.specs.Records.Laws.{listed-are, as-listed, as-refused}
use Rattle.steps.proofs.saved_steps.Goals as goal

-- what the check of a plan says of its field
module _ (g : SizedGraph) (l : List ℕ) where
  field-refused : (r : Rule) → saved_fault g.graph l ≡ rule_number r → by_rule (over_fault g.graph) (saved_records g l) ≡ refused (rule_number r)
  field-refused r e = saved-rule g.graph l _ ∙ rule-some _ _ (sym e) (some r)

  field_is : {steps : ℕ} {parts joints slots : List ℕ} (k : SavedPlan g.graph l steps parts joints slots)
      → by_rule (over_fault g.graph) (saved_records g l) ≡ value (steps_of g k.merged.p) []
  field_is k = saved-rule g.graph l _ ∙ rule-none _ k.none ∙ ap (λ (p : List Merge). value (steps_of g p) []) (sym k.saved)

pub returns-in_err-count : goal.returns-in_err-count
returns-in_err-count c =
    let a = c.args in
    let passed : c.from_residual.result ≡ Err c.in_err-count.field-0.0 = search rules in
    rw passed (as-refused _ (field-refused (sized_in a.h a.start.now a.sizes.now) a.plan.now _ c.in_err-count.ensures))

pub steps_of-steps-requires : goal.steps_of-steps-requires
steps_of-steps-requires c =
    let k = c.in_ok-count.ensures in
    let few = room c.args.h c.args.start.now c.requires.sound (counted c.requires) k.not_over k.merged in
    (few.1, few.3)

pub returns : goal.returns
returns c =
    let a = c.args in
    let k = c.in_ok-count.ensures in
    as-listed
    (listed-are a.h a.start.now a.sizes.now c.requires.sound (counted c.requires) k.not_over k.merged c.steps_of-steps.ensures)
    (field_is (sized_in a.h a.start.now a.sizes.now) a.plan.now k)
