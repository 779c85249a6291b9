-- `calls_main::lines` ends: each line starts beyond the one before.
use Rattle.std.proofs.Common.{length, ◌-◌}
use Rattle.calls_main.proofs.lines.Given as goal

abbrev pub decreases-loop-at : goal.decreases-loop-at
decreases-loop-at g l = length l.text - l.at
