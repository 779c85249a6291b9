-- `sketch::asking` meets its contract: placing by the number held. Assumes nothing.
use Rattle.theory.specs.Prelude.{ℕ, refl, sym, ap, ◌∙◌}
use Rattle.theory.specs.Graph.{verdict_of}
use Rattle.sheet.specs.Facts.{facts_of}
use Rattle.sheet.specs.Graph.{graph_of}
use Rattle.graph.specs.declared.Head.{Head}
use Rattle.sketch.specs.Sketch.{extended, as_judged}
use Rattle.sketch.specs.Sketch.Laws.{ask-unsound, ask-sound, passed-none, failed-some}
use Rattle.sketch.specs.Placing.Laws.{place-asked}
use Rattle.sketch.proofs.asking.Goals as goal

pub returns-then-is_err : goal.returns-then-is_err
returns-then-is_err c = sym (ask-unsound _ _ (λ e. failed-some _ c.if-is_err.ensures.value (c.check_sheet.ensures ∙ e)))

pub fill-front-requires : goal.fill-front-requires
fill-front-requires c = (sym c.check_sheet.ensures ∙ passed-none _ c.if-is_err.ensures.value, refl, refl, refl, refl)

pub place_next-requires : goal.place_next-requires
place_next-requires c = (_, c.fill-front.ensures)

pub returns : goal.returns
returns c =
    let facts = facts_of c.args.s in
    let n = ap (λ (h : Head). h.e) c.fill-front.ensures.head_is in
    (c.place_next.ensures facts c.fill-front.ensures).answer_is
    ∙ ap (λ (k : ℕ). as_judged k (verdict_of (graph_of (extended facts c.args.c)))) (place-asked facts c.args.c _ n)
    ∙ sym (ask-sound _ _ (sym c.check_sheet.ensures ∙ passed-none _ c.if-is_err.ensures.value))
