-- `rests::join` meets its contract: what it stores is the union. Assumes nothing.
use Rattle.theory.specs.Prelude.{refl}
use Rattle.theory.specs.Set.{◌∪◌}
use Rattle.rests.proofs.join.Goals as goal

pub returns : goal.returns
unfolding ◌∪◌
returns c = refl
