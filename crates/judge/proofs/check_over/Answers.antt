-- `judge::check_over` meets its contract: it is rule 11 where no merge was made. Assumes nothing.
use Rattle.theory.specs.Prelude.{refl, []}
use Rattle.judge.proofs.check_over.Goals as goal

pub check_over_after-requires : goal.check_over_after-requires
check_over_after-requires c = (c.requires, record { merges = []; valid = tt; count = refl })
