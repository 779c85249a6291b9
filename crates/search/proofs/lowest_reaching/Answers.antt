-- `search::lowest_reaching` meets its contract: the loops keep `Swept`. Assumes nothing.
use Rattle.std.specs.Prelude.{◌-◌}
use Rattle.theory.specs.Prelude.{◌∙◌, arith, and_le_l, get_or-set_same}
use Rattle.theory.specs.Set.{◌∩◌}
use Rattle.theory.specs.Set.Lowest.{lowest-below}
use Rattle.search.proofs.Swept.{swept_none, swept-next, swept-end, swept-found, swept-less}
use Rattle.search.proofs.lowest_reaching.Goals as goal

pub loop-w-init : goal.loop-w-init
loop-w-init c = swept_none c.requires

pub returns-then-outs-ne0-clause-lowest : goal.returns-then-outs-ne0-clause-lowest
unfolding ◌∩◌
returns-then-outs-ne0-clause-lowest c =
    let step = c.in-Some.ensures.steps in
    let l = c.loop-x.invariant in
    swept-found l.swept c.loop-w-test.true l.word l.fits step.0 step.1 c.outs-outs.ensures c.if-outs-ne0.true

pub returns-then-outs-ne0-clause-outs : goal.returns-then-outs-ne0-clause-outs
unfolding ◌∩◌
returns-then-outs-ne0-clause-outs c =
    let step = c.in-Some.ensures.steps in
    let low = lowest-below 64 c.loop-x.waiting.rest c.loop-x.invariant.fits step.0 in
    (omega (arith, step.1, low), c.outs-outs.ensures, c.if-outs-ne0.true)

pub loop-x-preserved : goal.loop-x-preserved
unfolding ◌∩◌
loop-x-preserved c =
    let step = c.in-Some.ensures.steps in
    let l = c.loop-x.invariant in
    record {
      can_next = tt;
      is_finite = tt;
      swept = rw step.2 (swept-less l.swept c.loop-w-test.true l.word l.fits step.0 step.1 c.outs-outs.ensures c.if-outs-ne0.false);
      word = get_or-set_same c.loop-x.todo c.loop-w.w _ 0 (omega (arith, l.swept.long));
      fits = omega (arith, step.2, l.fits, and_le_l c.loop-x.waiting.rest (c.loop-x.waiting.rest - 1));
    }

pub loop-w-preserved : goal.loop-w-preserved
loop-w-preserved c = swept-next c.loop-x.invariant.swept (c.loop-x.invariant.word ∙ c.in_default.ensures.steps.0)

pub returns-clause-lowest : goal.returns-clause-lowest
returns-clause-lowest c = swept-end c.loop-w.invariant c.loop-w-test.false
