-- `pattern_c::pattern_chain` meets its contract: the answer is counted. Assumes nothing.
use Rattle.pattern_c.specs.Numbers.Laws.{chain-counts}
use Rattle.pattern_c.proofs.pattern_chain.Goals as goal

pub returns : goal.returns
returns c = chain-counts _ _ _ _ c.count_chain.result (record { sfits = c.count_chain.type_inv }) c.count_chain.ensures c.chain.ensures
