-- `space::put_text` meets its contract: the bytes passed are stored. Assumes nothing.
use mathlib.Core.Path.{refl}
use Rattle.space.specs.Space.Laws.{storing-none, storing-one, storing-all, put_all, put-short}
use Rattle.space.proofs.put_text.Goals as goal

pub loop-i-init : goal.loop-i-init
loop-i-init c = storing-none _ _ _

pub loop-i-preserved : goal.loop-i-preserved
loop-i-preserved c = storing-one 0 refl c.loop-i-test.true c.loop-i.invariant

pub returns-after-loop-i : goal.returns-after-loop-i
returns-after-loop-i c = put_all refl (storing-all c.loop-i-test.false c.loop-i.invariant)

pub returns-else-next-out : goal.returns-else-next-out
returns-else-next-out c = put-short refl c.if-next-out.false
