-- `report::put_parts` meets its contract: its pieces make the words. Assumes nothing.
use borrow.Author.Rules.{rules}
use Rattle.report.specs.Block.Laws.{◌then◌}
use Rattle.report.proofs.put_parts.Goals as goal

pub returns : goal.returns
returns c = let j = c in
    let i = j in
    let made = i in
    (made.put_entry-a1.ensures.0 then (i.put_entry-a2.ensures.0 then (j.put_number-a3.ensures.0 then c.put_number.ensures.0)), search rules)
