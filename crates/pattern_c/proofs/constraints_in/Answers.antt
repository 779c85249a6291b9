-- The first i places hold the constraints of the columns: `Filling`.
use Rattle.theory.specs.Prelude.{arith, refl}
use Rattle.pattern_c.specs.Columns.{constraint_in}
use Rattle.pattern_c.specs.Columns.Laws.{filling-none, filling-more, filling-all}
use Rattle.pattern_c.proofs.constraints_in.Goals as goal

pub loop-i-init : goal.loop-i-init
loop-i-init c = filling-none _ _ _ refl

pub bounds-cs-i : goal.bounds-cs-i
bounds-cs-i c = omega (arith, c.loop-i-test.true)

pub loop-i-preserved : goal.loop-i-preserved
loop-i-preserved c = let a = c.args in
    let l = c.loop-i in
    rw c.constraint_at.ensures
    (filling-more (constraint_in a.firsts.now a.seconds.now a.maps.now a.sizes.now) 200 l.i l.cs
    (omega (arith, c.loop-i-test.true)) l.invariant)

pub returns : goal.returns
returns c = let a = c.args in
    filling-all (constraint_in a.firsts.now a.seconds.now a.maps.now a.sizes.now) 200 c.loop-i.i c.loop-i.cs
    c.loop-i-test.false c.loop-i.invariant
