-- `elements::read_straight` meets its contract: a number, and then rule 4. Assumes nothing.
use Rattle.theory.specs.Prelude.{sym, ltb-true, drop}
use Rattle.elements.specs.Answers.Laws.{straight, straight-length, straight-kinds, straight-cut, straight-unused, straight-whole}
use Rattle.elements.proofs.read_straight.Goals as goal

pub returns-in_default : goal.returns-in_default
returns-in_default c radii =
    straight-cut c.args.n (drop c.args.c.at c.args.s.now) (sym (rw c.unwrap_err.ensures at c.read_number-number.ensures.result_value))

pub returns-then-not-bits_used : goal.returns-then-not-bits_used
returns-then-not-bits_used c radii =
    straight-unused c.args.n (drop c.args.c.at c.args.s.now) (sym c.in-Ok.ensures.result_value) (sym c.if-not-bits_used.ensures)

pub returns : goal.returns
returns c radii = (
  straight c.args.n c.in-Ok.m,
  straight-whole c.args.n (drop c.args.c.at c.args.s.now) (sym c.in-Ok.ensures.result_value) (sym c.if-not-bits_used.ensures),
  straight-length c.args.n c.in-Ok.m,
  straight-kinds c.args.n c.in-Ok.m radii (ltb-true _ _ (sym c.if-not-bits_used.ensures)),
)
