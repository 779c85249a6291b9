-- `pair` meets its contract. Assumes nothing.
use Rattle.theory.specs.Prelude.{ap₂, bit_or}
use Rattle.theory.specs.Set.{◌∪◌}
use Rattle.theory.specs.Constraints.{pair}
use Rattle.sets.proofs.pair.Goals as goal

pub returns : goal.returns
unfolding pair ◌∪◌
returns c = ap₂ bit_or c.single.ensures c.single-2.ensures
