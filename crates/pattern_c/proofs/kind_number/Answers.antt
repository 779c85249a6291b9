-- `pattern_c::kind_number` meets its contract. Assumes nothing.
use Rattle.theory.specs.Prelude.{sym, List·getD-eq-default}
use Rattle.pattern_c.specs.Columns.Laws.{within-list}
use Rattle.pattern_c.proofs.kind_number.Goals as goal

pub returns-then-i-kinds : goal.returns-then-i-kinds
returns-then-i-kinds c = let a = c.args in within-list a.kinds.now a.i 0 3 c.if-i-kinds.true

pub returns-else-i-kinds : goal.returns-else-i-kinds
returns-else-i-kinds c = sym (List·getD-eq-default c.args.kinds.now 3 c.if-i-kinds.false)
