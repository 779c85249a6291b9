-- `report::numerals` meets its contract: the checker compares each byte of the table with the rule. Assumes nothing.
use mathlib.Core.Path.{refl}
use Rattle.space.specs.Text.{decimal}
use Rattle.report.specs.Block.{all_numerals}
use Rattle.report.proofs.numerals.Goals as goal

pub returns : goal.returns
unfolding all_numerals decimal
returns c = record { length_is = refl; right = tt }
