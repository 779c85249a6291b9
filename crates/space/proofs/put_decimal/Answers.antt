-- `space::put_decimal` meets its contract: one, two or three digits by the number's size. Assumes nothing.
use native.Mathlib.Omega.{arith}
use mathlib.Core.Path.{ap}
use lib.ListN.{length}
use Rattle.space.specs.Space.Laws.{◌then◌}
use Rattle.space.specs.Text.Laws.{decimal-1, decimal-2, decimal-3}
use Rattle.space.proofs.put_decimal.Goals as goal

pub put_item-requires : goal.put_item-requires
put_item-requires c = omega (arith, ap length (decimal-1 _ c.if-n-lt10.true))

pub returns-then-n-lt10 : goal.returns-then-n-lt10
returns-then-n-lt10 c = rw (decimal-1 _ c.if-n-lt10.true, ← c.digit.ensures) c.put_item.ensures

pub put_item-a1-requires : goal.put_item-a1-requires
put_item-a1-requires c = omega (arith, ap length (decimal-2 _ c.if-n-lt10.false c.if-n-lt100.true))

pub put_item-requires-then-n-lt100 : goal.put_item-requires-then-n-lt100
put_item-requires-then-n-lt100 c = omega (arith, ap length (decimal-2 _ c.if-n-lt10.false c.if-n-lt100.true))

pub returns-then-n-lt100 : goal.returns-then-n-lt100
returns-then-n-lt100 c =
    rw (decimal-2 _ c.if-n-lt10.false c.if-n-lt100.true, ← c.digit-then-n-lt100.ensures, ← c.digit-then-n-lt100-2.ensures)
    (c.put_item-a1.ensures then c.put_item-then-n-lt100.ensures)

pub put_item-a1-requires-2 : goal.put_item-a1-requires-2
put_item-a1-requires-2 c = omega (arith, ap length (decimal-3 _ c.if-n-lt10.false c.if-n-lt100.false))

pub put_item-a2-requires : goal.put_item-a2-requires
put_item-a2-requires c = omega (arith, ap length (decimal-3 _ c.if-n-lt10.false c.if-n-lt100.false))

pub put_item-requires-2 : goal.put_item-requires-2
put_item-requires-2 c = omega (arith, ap length (decimal-3 _ c.if-n-lt10.false c.if-n-lt100.false))

pub returns : goal.returns
returns c =
    rw (decimal-3 _ c.if-n-lt10.false c.if-n-lt100.false, ← c.digit-2.ensures, ← c.digit-3.ensures, ← c.digit-4.ensures)
    (c.put_item-a1-2.ensures then c.put_item-a2.ensures then c.put_item-2.ensures)
