-- `held::read` meets its contract: the facts of the sketch in the arrays, unless a rule of the writer or 11 refuses them. Assumes nothing.
use Rattle.std.specs.Prelude.{◌≡◌}
use Rattle.theory.specs.Prelude.{sym, ap, ◌∙◌, []}
use Rattle.theory.specs.Rule.{refusal}
use Rattle.sheet.specs.Facts.{facts_of}
use Rattle.sheet.specs.Graph.{graph_of, over_fault}
use Rattle.graph.specs.declared.Head.{Head}
use Rattle.graph.specs.Lent.{graph_in}
use Rattle.graph.specs.Lent.Sheets.{graph_is, drawn-in}
use Rattle.sketch.specs.Sketch.Laws.{passed-none, failed-some}
use Rattle.held.specs.Held.Laws.{value-unsound, value-over, value-held}
use Rattle.held.proofs.read.Goals as goal

pub returns-then-is_err : goal.returns-then-is_err
returns-then-is_err c = value-unsound _ (λ e. failed-some _ c.if-is_err.ensures.value (c.check_sheet.ensures ∙ e))

pub fill-front-requires : goal.fill-front-requires
fill-front-requires c =
    let p = c.requires in (sym c.check_sheet.ensures ∙ passed-none _ c.if-is_err.ensures.value, p.0, p.1, p.2, p.3)

pub check_over-requires : goal.check_over-requires
check_over-requires c = rw c.head_of.ensures (drawn-in c.fill-front.ensures)

pub returns-then-is_err-2 : goal.returns-then-is_err-2
returns-then-is_err-2 c =
    let over-is : refusal c.check_over.result ≡ over_fault (graph_of (facts_of c.args.s)) =
    c.check_over.ensures ∙ ap (λ (h : Head). over_fault (graph_in h c.fill-front.new.start)) c.head_of.ensures
    ∙ ap over_fault (graph_is c.fill-front.ensures) in
    value-over _ (sym c.check_sheet.ensures ∙ passed-none _ c.if-is_err.ensures.value)
    (λ e. failed-some _ c.if-is_err-2.ensures.value (over-is ∙ e))

pub returns : goal.returns
returns c =
    let over-is : refusal c.check_over.result ≡ over_fault (graph_of (facts_of c.args.s)) =
    c.check_over.ensures ∙ ap (λ (h : Head). over_fault (graph_in h c.fill-front.new.start)) c.head_of.ensures
    ∙ ap over_fault (graph_is c.fill-front.ensures) in (
      _,
      [],
      value-held _ (sym c.check_sheet.ensures ∙ passed-none _ c.if-is_err.ensures.value)
          (sym over-is ∙ passed-none _ c.if-is_err-2.ensures.value),
      c.fill-front.ensures,
    )
