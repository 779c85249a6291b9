-- `pattern_c::size_at` meets its contract. Assumes nothing.
use Rattle.theory.specs.Prelude.{sym, pos, List·getD-eq-default}
use Rattle.pattern_c.proofs.size_at.Goals as goal

pub returns-else-i-sizes : goal.returns-else-i-sizes
returns-else-i-sizes c = sym (List·getD-eq-default c.args.sizes.now (pos 0) c.if-i-sizes.false)
