-- `records::read_held` meets its contract: the sheet that is read, unless it is over. Assumes nothing.
use Rattle.std.specs.Prelude.{◌≡◌, Err}
use Rattle.theory.specs.Prelude.{rules, sym, ap, ◌∙◌}
use Rattle.theory.specs.Rule.{refusal}
use Rattle.sheet.specs.Graph.{graph_of, over_fault}
use Rattle.graph.specs.declared.Head.{Head}
use Rattle.graph.specs.Lent.{graph_in}
use Rattle.graph.specs.Lent.Sheets.{graph_is, drawn-in}
use Rattle.sketch.specs.Sketch.Laws.{passed-none, failed-some}
use Rattle.records.specs.Record.Laws.{held-unread, held-over, held-value}
use Rattle.records.proofs.read_held.Goals as goal

pub returns-in_err-front : goal.returns-in_err-front
returns-in_err-front c =
    let passed : c.from_residual.result ≡ Err c.in_err-front.field-0.0 = search rules in rw passed (held-unread _ c.in_err-front.ensures)

pub check_over-requires : goal.check_over-requires
check_over-requires c = rw c.head_of.ensures (drawn-in c.in_ok-front.ensures.3)

pub returns-then-is_err : goal.returns-then-is_err
returns-then-is_err c =
    let (f, t, reads, sheet-in) = c.in_ok-front.ensures in
    let over-is : refusal c.check_over.result ≡ over_fault (graph_of f) =
    c.check_over.ensures ∙ ap (λ (h : Head). over_fault (graph_in h c.read.new.start)) c.head_of.ensures ∙ ap over_fault (graph_is sheet-in) in
    held-over _ reads (λ e. failed-some _ c.if-is_err.ensures.value (over-is ∙ e))

pub returns : goal.returns
returns c =
    let (f, t, reads, sheet-in) = c.in_ok-front.ensures in
    let over-is : refusal c.check_over.result ≡ over_fault (graph_of f) =
    c.check_over.ensures ∙ ap (λ (h : Head). over_fault (graph_in h c.read.new.start)) c.head_of.ensures ∙ ap over_fault (graph_is sheet-in) in
    (f, _, held-value _ reads (sym over-is ∙ passed-none _ c.if-is_err.ensures.value), sheet-in)
