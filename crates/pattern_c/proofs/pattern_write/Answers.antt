-- `pattern_c::pattern_write` meets its contract: the rules of the columns, then what the writer answers of their sheet. Assumes nothing.
use Rattle.theory.specs.Prelude.{sym}
use Rattle.theory.specs.Rule.Laws.{rule-some}
use Rattle.sheet.specs.Answer.Laws.{answers-refused}
use Rattle.pattern_c.specs.Columns.Laws.{columns-refused, columns-taken}
use Rattle.pattern_c.specs.Numbers.Laws.{counts}
use Rattle.pattern_c.proofs.pattern_write.Goals as goal

pub returns-in-Err : goal.returns-in-Err
returns-in-Err c = let a = c.args in
    let e = columns-refused a.opening a.n a.e a.kinds.now a.radii.now a.firsts.now a.seconds.now a.maps.now a.sizes.now
    c.in-Err.ensures (rule-some _) in
    counts c.count.result _ (record { sfits = c.count.type_inv }) c.count.ensures (answers-refused e)

pub returns : goal.returns
returns c = let a = c.args in
    let w = c.write in
    let e = columns-taken a.opening a.n a.e a.kinds.now a.radii.now a.firsts.now a.seconds.now a.maps.now a.sizes.now
    (sym c.in_default.ensures)
    c.opening_by.ensures c.elements_in-elements.ensures
    c.constraints_in-constraints.ensures in
    counts c.count-2.result _ (record { sfits = c.count-2.type_inv }) c.count-2.ensures (rw (← e) w.ensures)
