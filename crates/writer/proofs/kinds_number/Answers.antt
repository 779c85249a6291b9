-- `writer::kinds_number` meets its contract: the kinds from the last element down; the number stays below 2 ^ 64. Assumes nothing.
use Rattle.theory.specs.Prelude.{arith, rules}
use Rattle.writer.proofs.Spread.{passed-none, one_more, more-fits, passed_all}
use Rattle.writer.proofs.kinds_number.Goals as goal

pub loop-x-init : goal.loop-x-init
loop-x-init c = record { can_next = tt; is_finite = tt; passed = passed-none c.args.o (search rules) }

pub overflow_mul-u : goal.overflow_mul-u
overflow_mul-u c =
    let fits = more-fits _ c.in-Some.x.now c.in-Some.ensures.steps c.loop-x.invariant.passed c.requires.0 c.requires.1 in
    omega (arith, rw (← c.kind_base-base.ensures) at fits)

pub overflow_add-u : goal.overflow_add-u
overflow_add-u c =
    rw (c.kind_base-base.ensures, c.kind_digit.ensures)
    (record { fits = more-fits _ c.in-Some.x.now c.in-Some.ensures.steps c.loop-x.invariant.passed c.requires.0 c.requires.1 })

pub loop-x-preserved : goal.loop-x-preserved
loop-x-preserved c = record {
  can_next = tt;
  is_finite = tt;
  passed =
      one_more _ c.in-Some.x.now c.in-Some.ensures.steps c.loop-x.invariant.passed (rw (c.kind_base-base.ensures, c.kind_digit.ensures));
}

pub returns : goal.returns
returns c = passed_all _ c.in-None.ensures.steps.0 c.loop-x.invariant.passed
