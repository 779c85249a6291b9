-- `report::put_over_report` meets its contract: its pieces make the report. Assumes nothing.
use Rattle.theory.specs.Prelude.{rules, sym}
use Rattle.report.specs.Block.Laws.{stands-as, ◌then◌}
use Rattle.report.specs.Report.Laws.{over-pieces}
use Rattle.report.proofs.put_over_report.Goals as goal

pub returns : goal.returns
returns c = let count = c in
    let first = count in
    let elements = first in
    let verdict = elements in
    let a = verdict.args in (
      stands-as (sym (over-pieces a.n a.e a.first a.set)) (verdict.put_verdict_line-a1.ensures.0
          then (elements.put_elements_line-a2.ensures.0 then (first.put_word-a3.ensures then (count.put_count-a4.ensures.0
          then c.put_elements.ensures.0)))),
      search rules,
    )
