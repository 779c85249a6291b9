-- `engine::put_all_living` meets its contract: the living clusters passed are put. Assumes nothing.
use Rattle.theory.specs.Prelude.{rules, sym, ap, arith, length-take, take_all}
use Rattle.space.specs.Space.Laws.{put-none, put_as, ◌then◌}
use Rattle.engine.specs.Lists.{living_of}
use Rattle.engine.specs.Lists.Laws.{living-next}
use Rattle.engine.proofs.put_all_living.Goals as goal

pub loop-x-init : goal.loop-x-init
unfolding living_of
loop-x-init c = record { few = search rules; passed = put-none _ 0 }

pub put_living-next-requires : goal.put_living-next-requires
put_living-next-requires c = omega (arith, c.requires, length-take c.args.used c.args.slots.now)

pub loop-x-preserved : goal.loop-x-preserved
loop-x-preserved c = let l = c.loop-x in
    let put = c.put_living-next.ensures in
    record { few = omega (arith, put.1); passed = put_as (sym (living-next _ l.x-index c.loop-x-test.true)) (l.invariant.passed then put.0) }

pub shape_of-out : goal.shape_of-out
shape_of-out c = c.loop-x.invariant.passed.length_is

pub returns : goal.returns
returns c = put_as (ap living_of (take_all _ _ c.loop-x-test.false)) c.loop-x.invariant.passed
