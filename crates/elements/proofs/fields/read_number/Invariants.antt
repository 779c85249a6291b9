-- `elements::fields::read_number` meets its contract. Assumes nothing.
use Rattle.std.specs.Prelude.{◌-◌, ◌^◌, ◌<◌, ◌≡◌, take, drop}
use Rattle.sheet.specs.Field.{number}
use Rattle.elements.proofs.fields.read_number.Given as goal

abbrev pub invariant-loop-i : goal.invariant-loop-i
invariant-loop-i l = (l.u ≡ number (drop l.i (take l.k (drop l.at l.s)))) × (l.u < 256 ^ (l.k - l.i))
