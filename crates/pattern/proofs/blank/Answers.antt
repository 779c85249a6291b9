-- `pattern::blank` meets its contract. Assumes nothing.
use Rattle.theory.specs.Prelude.{refl}
use Rattle.sheet.specs.Facts.{sheet_of}
use Rattle.pattern.proofs.blank.Goals as goal

pub returns : goal.returns
unfolding sheet_of
returns c = refl
