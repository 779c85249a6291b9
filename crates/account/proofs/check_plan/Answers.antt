-- `account::check_plan` meets its contract: the rule that refuses the plan, else the report of its merges with their own verdict. Assumes nothing.
use Rattle.std.specs.Prelude.{◌*◌, ◌≤◌, ◌≡◌, Err}
use Rattle.theory.specs.Prelude.{rules, arith, sym, ap, ◌∙◌, List, [], ℕ, ℤ, length, take}
use Rattle.theory.specs.Merge.{Merge}
use Rattle.theory.specs.Graph.{SizedGraph}
use Rattle.theory.specs.declared.Rule.{Rule}
use Rattle.theory.specs.Rule.{rule_number}
use Rattle.theory.specs.Rule.Laws.{rule-some as some}
use Rattle.theory.specs.declared.Verdict.{Verdict}
use Rattle.sheet.specs.Field.{value, refused}
use Rattle.sheet.specs.Answer.{by_rule}
use Rattle.sheet.specs.Answer.Laws.{rule-none, rule-some, answers-refused, answers-items}
use Rattle.sheet.specs.Graph.{over_fault}
use Rattle.graph.specs.declared.Head.{Head}
use Rattle.graph.specs.Lent.{graph_in, sized_in, Drawn}
use Rattle.graph.specs.Lent.Sheets.{counted}
use Rattle.merges.specs.Run.{Run, run_in}
use Rattle.judge.specs.Judged.Laws.{arrays-long, Settled}
use Rattle.account.specs.Account.{report_with, list_report, saved_fault, saved_field}
use Rattle.account.specs.Account.Laws.{room, settled-report}
use Rattle.account.specs.Saved.{SavedPlan}
use Rattle.account.specs.Saved.Laws.{saved-rule}
use Rattle.account.proofs.check_plan.Goals as goal

-- what the check of a plan says of its field
module _ (g : SizedGraph) (l : List ℕ) where
  field-refused : (r : Rule) → saved_fault g.graph l ≡ rule_number r → by_rule (over_fault g.graph) (saved_field g l) ≡ refused (rule_number r)
  field-refused r e = saved-rule g.graph l _ ∙ rule-some _ _ (sym e) (some r)

  field_is : {steps : ℕ} {parts joints slots : List ℕ} (k : SavedPlan g.graph l steps parts joints slots)
      → by_rule (over_fault g.graph) (saved_field g l) ≡ value (list_report g k.merged.p) []
  field_is k = saved-rule g.graph l _ ∙ rule-none _ k.none ∙ ap (λ (p : List Merge). value (list_report g p) []) (sym k.saved)

-- a plan that no rule refuses
module _ {h : Head} {near start l : List ℕ} (d : Drawn h near start) {steps : ℕ} {parts joints slots : List ℕ}
    (k : SavedPlan (graph_in h start) l steps parts joints slots) where
  abbrev run : Run
  run = run_in steps parts joints slots

  few : (h.n ≤ 64) × (h.e ≤ 125) × (2 * steps ≤ h.e) × (steps ≤ 62)
  few = room h start d.sound (counted d) k.not_over {run = run} k.merged

  long : (length joints ≡ 64) × (length slots ≡ 192)
  long = arrays-long (take h.e start) d.sound.simple.pairs {run = run} k.merged (omega (arith, few, counted d))

  report_is : (sizes : List ℤ) {v : Verdict} → Settled h run v
      → report_with (sized_in h start sizes) v k.merged.p ≡ list_report (sized_in h start sizes) k.merged.p
  report_is sizes = settled-report h start sizes d.sound (counted d) k.not_over {run = run} k.merged

pub returns-in_err-count : goal.returns-in_err-count
returns-in_err-count c =
    let a = c.args in
    let passed : c.from_residual.result ≡ Err c.in_err-count.field-0.0 = search rules in
    rw passed (answers-refused (field-refused (sized_in a.h a.start.now a.sizes.now) a.plan.now _ c.in_err-count.ensures))

pub settle-verdict-requires : goal.settle-verdict-requires
settle-verdict-requires c =
    let f = few c.requires c.in_ok-count.ensures in
    let l = long c.requires c.in_ok-count.ensures in
    (omega (arith, f), f.2, f.0, omega (arith, f), l.0, l.1)

pub put_list-requires : goal.put_list-requires
put_list-requires c = let k = c.in_ok-count.ensures in (c.requires.sound, counted c.requires, k.not_over, k.merged)

pub returns : goal.returns
returns c =
    let a = c.args in
    let k = c.in_ok-count.ensures in
    answers-items (rw (report_is c.requires k a.sizes.now c.settle-verdict.ensures) at (c.put_list.ensures k.merged))
    (field_is (sized_in a.h a.start.now a.sizes.now) a.plan.now k)
