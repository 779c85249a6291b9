-- `sketch::last_rule` meets its contract, by its test. Assumes nothing.
use Rattle.theory.specs.Prelude.{eq-eqb, ne_eqb}
use Rattle.sketch.proofs.last_rule.Goals as goal

pub returns-then-first-e : goal.returns-then-first-e
returns-then-first-e c = rw (eq-eqb _ _ c.if-first-e.true)

pub returns-else-first-e : goal.returns-else-first-e
returns-else-first-e c = rw (ne_eqb _ _ c.if-first-e.false)
