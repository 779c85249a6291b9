-- `sheet::pair_stands` meets its contract. Assumes nothing.
use Rattle.sheet.specs.Noted.Laws.{noted-says}
use Rattle.sheet.proofs.pair_stands.Goals as goal

pub returns : goal.returns
returns c = λ cs h. rw c.from.ensures (noted-says h c.requires.0 c.requires.1)
