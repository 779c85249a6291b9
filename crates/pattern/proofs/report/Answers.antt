-- `pattern::report` meets its contract: the report of the graph that is read. Assumes nothing.
use Rattle.std.specs.Prelude.{◌≡◌, Err}
use Rattle.theory.specs.Rule.{by_number, rule_number}
use Rattle.theory.specs.Prelude.{rules, refl, sym, ap, []}
use Rattle.theory.specs.Graph.{SizedGraph}
use Rattle.graph.specs.Lent.{sized_in}
use Rattle.account.specs.Account.{report_of}
use Rattle.sheet.specs.Field.{value}
use Rattle.sheet.specs.Answer.Laws.{answers-refused, answers-items}
use Rattle.pattern.specs.Entries.Reading.{facts-read}
use Rattle.pattern.proofs.report.Goals as goal

pub read_graph-requires : goal.read_graph-requires
read_graph-requires c = (refl, refl, refl)

pub returns-in_err-head : goal.returns-in_err-head
returns-in_err-head c =
    let passed : by_number c.from_residual.result ≡ Err (rule_number c.in_err-head.field-0.0) = search rules in
    rw passed (answers-refused (rw c.in_err-head.ensures))

pub report-requires : goal.report-requires
report-requires c = (facts-read c.in_ok-head.ensures).drawn_is

pub returns : goal.returns
returns c =
    let f = facts-read c.in_ok-head.ensures in
    answers-items {items = report_of (sized_in c.in_ok-head.head c.read_graph.new.start c.read_graph.new.sizes)} c.report.ensures
    (rw f.reads (ap (λ (g : SizedGraph). value (report_of g) []) (sym f.sized_read)))
