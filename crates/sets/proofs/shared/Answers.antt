-- `shared` meets its contract. Assumes nothing.
use mathlib.Core.Path.{refl}
use Rattle.theory.specs.Set.{◌∩◌}
use Rattle.sets.proofs.shared.Goals as goal

pub returns : goal.returns
unfolding ◌∩◌
returns c = refl
