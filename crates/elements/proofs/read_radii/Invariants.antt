-- `elements::read_radii` meets its contract: i elements are read, and their radii stand. Assumes nothing.
use Rattle.std.specs.Prelude.{◌+◌, ◌/◌}
use Rattle.elements.specs.Round.{round_kinds}
use Rattle.elements.specs.Round.Elements.{Partway}
use Rattle.elements.proofs.read_radii.Given as goal

abbrev pub invariant-loop-i : goal.invariant-loop-i
invariant-loop-i l = Partway (round_kinds l.s l.at l.n) l.s (l.at + (l.n + 3) / 4) l.i l.c.at l.radii
