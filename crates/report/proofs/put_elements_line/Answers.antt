-- `report::put_elements_line` meets its contract: its pieces make the line. Assumes nothing.
use borrow.Author.Rules.{rules}
use Rattle.report.specs.Block.Laws.{◌then◌}
use Rattle.report.proofs.put_elements_line.Goals as goal

pub returns : goal.returns
returns c = let e = c in
    let constraints = e in
    let n = constraints in (
      n.put_word-a1.ensures then (n.put_count-a2.ensures.0 then (constraints.put_word-a3.ensures
          then (e.put_count-a4.ensures.0 then c.put_word.ensures))),
      search rules,
    )
