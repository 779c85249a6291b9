-- `pattern_c::pattern_hold` meets its contract: the answer is counted. Assumes nothing.
use Rattle.pattern_c.specs.Numbers.Laws.{counts}
use Rattle.pattern_c.proofs.pattern_hold.Goals as goal

pub returns : goal.returns
returns c = counts c.count.result _ (record { sfits = c.count.type_inv }) c.count.ensures c.hold_in.ensures
