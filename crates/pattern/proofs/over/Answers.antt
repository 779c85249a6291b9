-- `pattern::over` meets its contract: what is found of the graph that is read. Assumes nothing.
use Rattle.std.specs.Prelude.{◌≡◌, Err}
use Rattle.theory.specs.Rule.{by_number, rule_number}
use Rattle.theory.specs.Prelude.{rules, arith, refl, sym, ap, ◌∙◌, []}
use Rattle.theory.specs.Finding.{Fine, First}
use Rattle.theory.specs.Graph.{Graph, finding_of}
use Rattle.sheet.specs.Graph.{graph_of}
use Rattle.sheet.specs.Answer.Laws.{answers-refused, answers-items}
use Rattle.pattern.specs.Entries.Reading.{facts-read, stored-items}
use Rattle.pattern.proofs.over.Goals as goal

pub read_graph-requires : goal.read_graph-requires
read_graph-requires c = (refl, refl, refl)

pub returns-in_err-head : goal.returns-in_err-head
returns-in_err-head c =
    let passed : by_number c.from_residual.result ≡ Err (rule_number c.in_err-head.field-0.0) = search rules in
    rw passed (answers-refused (rw c.in_err-head.ensures))

pub over_of-requires : goal.over_of-requires
over_of-requires c = (facts-read c.in_ok-head.ensures).drawn_is

pub returns-in-None : goal.returns-in-None
returns-in-None c =
    let f = facts-read c.in_ok-head.ensures in
    let fine : Fine ≡ finding_of (graph_of f.facts) = c.in-None.ensures ∙ ap (λ (g : Graph). finding_of g) f.graph_read in
    answers-items (stored-items _ [] (omega arith)) (rw (f.reads, sym fine))

pub returns-in-Some : goal.returns-in-Some
returns-in-Some c =
    let f = facts-read c.in_ok-head.ensures in
    let x = c.in-Some.excess in
    let first : First x.constraint x.set ≡ finding_of (graph_of f.facts) = c.in-Some.ensures ∙ ap (λ (g : Graph). finding_of g) f.graph_read in
    answers-items c.put_two.ensures (rw (f.reads, sym first))
