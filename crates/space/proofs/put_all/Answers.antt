-- `space::put_all` meets its contract: measured first, then written. Assumes nothing.
use Rattle.space.specs.Space.Laws.{put_refused, storing-none, storing-read, stored}
use Rattle.space.proofs.put_all.Goals as goal

pub returns-then-out-items : goal.returns-then-out-items
returns-then-out-items g c = let every = put_refused _ _ c.if-out-items.true in record { answers = every.0; leaves = every.1 }

pub loop-i-init : goal.loop-i-init
loop-i-init g c = storing-none _ _ _

pub loop-i-preserved : goal.loop-i-preserved
loop-i-preserved g c = storing-read c.index-items-i.is c.loop-i-test.true c.loop-i.invariant

pub returns : goal.returns
returns g c =
    let every = stored c.if-out-items.false c.loop-i-test.false c.loop-i.invariant in
    record { answers = every.0; leaves = every.1 }
