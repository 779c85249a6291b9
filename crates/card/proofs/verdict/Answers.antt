-- `card::verdict` meets its contract: the entry's letter names the verdict. Assumes nothing.
use Rattle.card.proofs.verdict.Goals as goal

pub returns : goal.returns
returns c = c.named.ensures _ c.entry.ensures
