-- `pattern_c::opening_by` meets its contract. Assumes nothing.
use borrow.Author.Tests.{eq-eqb, ne_eqb}
use Rattle.pattern_c.proofs.opening_by.Goals as goal

pub returns-then-opening-eq2 : goal.returns-then-opening-eq2
returns-then-opening-eq2 c = rw (eq-eqb _ _ c.if-opening-eq2.true)

pub returns-else-opening-eq2 : goal.returns-else-opening-eq2
returns-else-opening-eq2 c = rw (ne_eqb _ _ c.if-opening-eq2.false)
