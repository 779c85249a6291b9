-- `pattern_c::radius_at` meets its contract. Assumes nothing.
use Rattle.theory.specs.Prelude.{sym, List·getD-eq-default}
use Rattle.pattern_c.proofs.radius_at.Goals as goal

pub returns-else-i-radii : goal.returns-else-i-radii
returns-else-i-radii c = sym (List·getD-eq-default c.args.radii.now 0 c.if-i-radii.false)
