-- `search::enter` meets its contract: the loop keeps `Entering`. Assumes nothing.
use Rattle.std.specs.Prelude.{◌≡◌, ◌%◌}
use Rattle.theory.specs.Prelude.{refl, arith, rules}
use Rattle.search.proofs.Storing.{one-shifted, entering-none, entering-next, entering-all}
use Rattle.search.proofs.enter.Goals as goal

pub loop-p-init : goal.loop-p-init
loop-p-init c =
    let begins : c.into_iter-p-iterator.result.rest ≡ c.args.x = cc in
    record {
      can_next = tt;
      is_finite = tt;
      entering = rw begins (entering-none c.requires.0 (search rules) c.requires.1 c.requires.2);
    }

pub loop-p-preserved : goal.loop-p-preserved
loop-p-preserved c =
    let step = c.in-Some.ensures.steps in
    let shift = one-shifted (c.args.c % 64) (omega arith) in
    record {
      can_next = tt;
      is_finite = tt;
      entering = rw step.2 (entering-next c.requires.0 c.loop-p.invariant.entering _ _ _ step.1 refl shift step.0);
    }

pub returns : goal.returns
returns c = entering-all c.requires.0 c.loop-p.invariant.entering c.in-None.ensures.steps.0 c.requires.1
