-- `report::digits` meets its contract, by the size of the number. Assumes nothing.
use Rattle.theory.specs.Prelude.{sym, ap, length}
use Rattle.space.specs.Text.Laws.{decimal-1, decimal-2, decimal-3}
use Rattle.report.proofs.digits.Goals as goal

pub returns-then-n-lt10 : goal.returns-then-n-lt10
returns-then-n-lt10 c = sym (ap length (decimal-1 _ c.if-n-lt10.true))

pub returns-then-n-lt100 : goal.returns-then-n-lt100
returns-then-n-lt100 c = sym (ap length (decimal-2 _ c.if-n-lt10.false c.if-n-lt100.true))

pub returns : goal.returns
returns c = sym (ap length (decimal-3 _ c.if-n-lt10.false c.if-n-lt100.false))
