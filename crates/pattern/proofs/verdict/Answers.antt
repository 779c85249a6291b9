-- `pattern::verdict` meets its contract: the verdict of the graph that is read. Assumes nothing.
use Rattle.std.specs.Prelude.{◌≡◌, Err}
use Rattle.theory.specs.Rule.{by_number, rule_number}
use Rattle.theory.specs.Prelude.{rules, refl, ap, ◌∙◌}
use Rattle.theory.specs.Graph.{verdict_of}
use Rattle.sketch.specs.Judgement.{Is}
use Rattle.pattern.specs.Entries.Reading.{facts-read}
use Rattle.pattern.proofs.verdict.Goals as goal

pub read_graph-requires : goal.read_graph-requires
read_graph-requires c = (refl, refl, refl)

pub returns-in_err-head : goal.returns-in_err-head
returns-in_err-head c =
    let passed : by_number c.from_residual.result ≡ Err (rule_number c.in_err-head.field-0.0) = search rules in
    rw (passed, c.in_err-head.ensures)

pub verdict_of-is-requires : goal.verdict_of-is-requires
verdict_of-is-requires c = (facts-read c.in_ok-head.ensures).drawn_is

pub returns : goal.returns
returns c =
    let read = facts-read c.in_ok-head.ensures in
    let f = read in rw f.reads (ap Is (c.verdict_of-is.ensures ∙ ap verdict_of f.graph_read))
