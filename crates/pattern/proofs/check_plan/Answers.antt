-- `pattern::check_plan` meets its contract: 11 and the plan check, of the graph that is read. Assumes nothing.
use Rattle.std.specs.Prelude.{◌≡◌, Err}
use Rattle.theory.specs.Rule.{by_number, rule_number}
use Rattle.theory.specs.Prelude.{rules, ℕ, refl, subst, List}
use Rattle.theory.specs.Graph.{SizedGraph}
use Rattle.sheet.specs.Answer.{by_rule, Answers}
use Rattle.space.specs.Written.{Written}
use Rattle.sheet.specs.Graph.{graph_of, sized_of, over_fault}
use Rattle.sheet.specs.Field.{value}
use Rattle.sheet.specs.Answer.Laws.{next-rule, answers-refused}
use Rattle.account.specs.Account.{saved_field}
use Rattle.pattern.specs.Entries.{held_sheet}
use Rattle.pattern.specs.Entries.Reading.{facts-read}
use Rattle.pattern.proofs.check_plan.Goals as goal

-- the answer goes by the graph alone
by-graph : (plan : List ℕ) {g g' : SizedGraph} {space left : List ℕ} {r : Written} → g ≡ g'
    → Answers (by_rule (over_fault g.graph) (saved_field g plan)) space r left
    → Answers (by_rule (over_fault g'.graph) (saved_field g' plan)) space r left
by-graph plan {space = space} {left} {r} e h = subst (λ (x : SizedGraph). Answers (by_rule (over_fault x.graph) (saved_field x plan)) space r left) e h

pub read_graph-requires : goal.read_graph-requires
read_graph-requires c = (refl, refl, refl)

pub returns-in_err-head : goal.returns-in_err-head
unfolding held_sheet
returns-in_err-head c =
    let passed : by_number c.from_residual.result ≡ Err (rule_number c.in_err-head.field-0.0) = search rules in
    rw passed (answers-refused (rw c.in_err-head.ensures))

pub check_plan-requires : goal.check_plan-requires
check_plan-requires c = (facts-read c.in_ok-head.ensures).drawn_is

pub returns : goal.returns
unfolding held_sheet
returns c =
    let read = facts-read c.in_ok-head.ensures in
    let a = c.args in
    let f = read in
    rw (
      f.reads,
      next-rule (over_fault (graph_of f.facts)) (value f.facts f.rest) (λ x rest. saved_field (sized_of x) a.plan.now),
    )
    (by-graph a.plan.now f.sized_read c.check_plan.ensures)
