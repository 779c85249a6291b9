-- `pattern_c::pattern_held_rests` meets its contract: the answer as a count. Assumes nothing.
use Rattle.pattern_c.specs.Numbers.Laws.{counts}
use Rattle.pattern_c.proofs.pattern_held_rests.Goals as goal

pub returns : goal.returns
returns c = counts c.count.result _ (record { sfits = c.count.type_inv }) c.count.ensures c.held_rests_in.ensures
