-- `merges::joint3` meets its contract. Assumes nothing.
use Rattle.theory.specs.Set.{◌∪◌}
use Rattle.theory.specs.Merge.{joint}
use Rattle.merges.proofs.joint3.Goals as goal

pub returns : goal.returns
unfolding joint ◌∪◌
returns c t a b d = rw (a, b, d, c.shared.ensures, c.shared-2.ensures, c.shared-3.ensures)
