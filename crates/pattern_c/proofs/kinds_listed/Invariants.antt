-- `pattern_c::kinds_listed` meets its contract: the kinds before i are listed. Assumes nothing.
use Rattle.std.specs.Prelude.{◌≤◌, ◌≡◌}
use Rattle.theory.specs.Prelude.{true}
use Rattle.pattern_c.specs.Columns.{kinds_listed}
use Rattle.pattern_c.proofs.kinds_listed.Given as goal

abbrev pub invariant-loop-i : goal.invariant-loop-i
invariant-loop-i l = (l.i ≤ l.n) × (kinds_listed l.kinds l.i ≡ true)
