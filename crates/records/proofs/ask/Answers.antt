-- `records::ask` meets its contract: the sheet that is read, and placing by the number that it holds. Assumes nothing.
use Rattle.std.specs.Prelude.{◌≡◌, Err}
use Rattle.theory.specs.Prelude.{rules, refl, sym, ap, ◌∙◌, ℕ}
use Rattle.theory.specs.Rule.{rule_number, by_number}
use Rattle.theory.specs.Graph.{verdict_of}
use Rattle.sheet.specs.Graph.{graph_of}
use Rattle.graph.specs.declared.Head.{Head}
use Rattle.sketch.specs.Sketch.{extended, as_judged}
use Rattle.sketch.specs.Placing.Laws.{place-asked}
use Rattle.records.specs.Record.Laws.{asked-refused, asked-value}
use Rattle.records.proofs.ask.Goals as goal

pub read-requires : goal.read-requires
read-requires c = (refl, refl, refl, refl)

pub returns-in_err-front : goal.returns-in_err-front
returns-in_err-front c =
    let passed : by_number c.from_residual.result ≡ Err (rule_number c.in_err-front.field-0.0) = search rules in
    passed ∙ asked-refused _ _ c.in_err-front.ensures

pub place_next-requires : goal.place_next-requires
place_next-requires c = (_, c.in_ok-front.ensures.3)

pub returns : goal.returns
returns c =
    let (f, t, reads, sheet-in) = c.in_ok-front.ensures in
    let one = c.args.c in
    let n = ap (λ (h : Head). h.e) sheet-in.head_is in
    (c.place_next.ensures f sheet-in).answer_is
    ∙ ap (λ (k : ℕ). as_judged k (verdict_of (graph_of (extended f one)))) (place-asked f one _ n)
    ∙ sym (asked-value _ one reads)
