-- `pattern::rests` meets its contract: what the final clusters of the graph that is read rest on. Assumes nothing.
use Rattle.std.specs.Prelude.{◌≡◌, Err}
use Rattle.theory.specs.Rule.{by_number, rule_number}
use Rattle.theory.specs.Prelude.{rules, refl, sym, ap, []}
use Rattle.theory.specs.Graph.{Graph}
use Rattle.account.specs.Resting.{rest_numbers}
use Rattle.sheet.specs.Field.{value}
use Rattle.sheet.specs.Answer.Laws.{answers-refused, answers-items}
use Rattle.pattern.specs.Entries.Reading.{facts-read}
use Rattle.pattern.proofs.rests.Goals as goal

pub read_graph-requires : goal.read_graph-requires
read_graph-requires c = (refl, refl, refl)

pub returns-in_err-head : goal.returns-in_err-head
returns-in_err-head c =
    let passed : by_number c.from_residual.result ≡ Err (rule_number c.in_err-head.field-0.0) = search rules in
    rw passed (answers-refused (rw c.in_err-head.ensures))

pub rests-requires : goal.rests-requires
rests-requires c = (facts-read c.in_ok-head.ensures).drawn_is

pub returns : goal.returns
returns c =
    let read = facts-read c.in_ok-head.ensures in
    let f = read in
    answers-items c.rests.ensures (rw f.reads (ap (λ (g : Graph). value (rest_numbers g) []) (sym f.graph_read)))
