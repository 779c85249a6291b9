-- `pattern_c::pattern_held_count` meets its contract: the answer is a count. Assumes nothing.
use Rattle.pattern_c.specs.Numbers.Laws.{counted}
use Rattle.pattern_c.proofs.pattern_held_count.Goals as goal

pub returns : goal.returns
returns c = counted c.count.result _ _ (record { sfits = c.count.type_inv }) c.count.ensures c.held_count_in.ensures
