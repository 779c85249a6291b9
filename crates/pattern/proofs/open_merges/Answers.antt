-- `pattern::open_merges` meets its contract: 11 and the open merges, of the graph that is read. Assumes nothing.
use Rattle.std.specs.Prelude.{◌≡◌, Err}
use Rattle.theory.specs.Rule.{by_number, rule_number}
use Rattle.theory.specs.Prelude.{rules, ℕ, refl, subst, List}
use Rattle.theory.specs.Graph.{Graph}
use Rattle.sheet.specs.Answer.{Answers}
use Rattle.space.specs.Written.{Written}
use Rattle.sheet.specs.Graph.{graph_of, over_fault}
use Rattle.sheet.specs.Field.{value}
use Rattle.sheet.specs.Answer.Laws.{next-rule, answers-refused}
use Rattle.opens.specs.Opens.{open_field, held_field}
use Rattle.pattern.specs.Entries.{held_sheet}
use Rattle.pattern.specs.Entries.Reading.{facts-read}
use Rattle.pattern.proofs.open_merges.Goals as goal

-- the answer goes by the graph alone
by-graph : (count : ℕ) {g g' : Graph} {space left : List ℕ} {r : Written} → g ≡ g' → Answers (held_field g count) space r left
    → Answers (held_field g' count) space r left
by-graph count {space = space} {left} {r} e h = subst (λ (x : Graph). Answers (held_field x count) space r left) e h

pub read_graph-requires : goal.read_graph-requires
read_graph-requires c = (refl, refl, refl)

pub returns-in_err-head : goal.returns-in_err-head
unfolding held_sheet
returns-in_err-head c =
    let passed : by_number c.from_residual.result ≡ Err (rule_number c.in_err-head.field-0.0) = search rules in
    rw passed (answers-refused (rw c.in_err-head.ensures))

pub open_of-requires : goal.open_of-requires
open_of-requires c =
    let read = facts-read c.in_ok-head.ensures in
    read.drawn_is

pub returns : goal.returns
unfolding held_sheet
returns c =
    let read = facts-read c.in_ok-head.ensures in
    let a = c.args in
    let f = read in
    rw (
      f.reads,
      next-rule (over_fault (graph_of f.facts)) (value f.facts f.rest) (λ x rest. open_field (graph_of x) a.count),
    )
    (by-graph a.count f.graph_read c.open_of.ensures)
