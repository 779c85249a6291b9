-- `judge::plan_on` meets its contract: more than 2n-3 constraints are over, and else the judgement decides. Assumes nothing.
use Rattle.theory.specs.Prelude.{arith, sym, ap, ◌∙◌, ltb-true}
use Rattle.graph.specs.Lent.{graph_in}
use Rattle.graph.specs.Lent.Sheets.{counted}
use Rattle.judge.specs.Judged.{Judged}
use Rattle.judge.specs.Judged.Short.{run_more, run-first}
use Rattle.judge.proofs.plan_on.Goals as goal

pub returns-then-crowded : goal.returns-then-crowded
returns-then-crowded c =
    let (d, blank) = c.requires in
    run_more (graph_in c.args.h c.args.start.now) d.sound (omega (arith, ltb-true _ _ (sym c.crowded.ensures ∙ c.if-crowded.true), counted d)) blank

pub returns-in-Ok : goal.returns-in-Ok
returns-in-Ok c = ap (λ (j : Judged). j.run) c.in-Ok.ensures.judged

pub returns-in-Err : goal.returns-in-Err
returns-in-Err c = run-first (graph_in c.args.h c.args.start.now) c.requires.0.sound c.in-Err.ensures c.blank.ensures
