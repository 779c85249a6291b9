-- `pattern_c::pattern_initial`
use Rattle.pattern_c.specs.Numbers.Laws.{counts}
use Rattle.pattern_c.proofs.pattern_initial.Goals as goal

pub returns : goal.returns
returns c = counts c.count.result _ (record { sfits = c.count.type_inv }) c.count.ensures c.initial.ensures
