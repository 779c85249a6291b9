-- `report::put_rests` meets its contract: its pieces make the words. Assumes nothing.
use Rattle.report.specs.Block.Laws.{◌then◌}
use Rattle.report.proofs.put_rests.Goals as goal

pub returns : goal.returns
returns c = let high = c in
    let low = high in
    low.put_word-a1.ensures
    then (low.put_set-a2.ensures.0 then (high.put_set_from-a3.ensures.0 then c.put_word.ensures))
