-- `judge::over_of` meets its contract: the search finds what the definition does. Assumes nothing.
use Rattle.judge.proofs.over_of.Goals as goal

pub returns : goal.returns
returns c = c.find_over.ensures _ c.requires.sound.below
