-- `without_lowest` meets its contract. Assumes nothing.
use Rattle.theory.specs.Prelude.{refl}
use Rattle.theory.specs.Set.{◌∩◌}
use Rattle.sets.proofs.without_lowest.Goals as goal

pub returns-then-m-eq0 : goal.returns-then-m-eq0
unfolding ◌∩◌
returns-then-m-eq0 c = rw c.if-m-eq0.true refl

pub returns-else-m-eq0 : goal.returns-else-m-eq0
unfolding ◌∩◌
returns-else-m-eq0 c = refl
