-- `card_counts::lines` meets its contract: the lines say the counts that are computed. Assumes nothing.
use Rattle.space.specs.Text.{decimal}
use Rattle.card_counts.specs.Counts.{counts_lines}
use Rattle.card_counts.specs.Counts.Proof.{counted}
use Rattle.card_counts.proofs.lines.Goals as goal

pub returns : goal.returns
unfolding counts_lines decimal
returns c = rw (counted.two, counted.three, counted.four, counted.five)
