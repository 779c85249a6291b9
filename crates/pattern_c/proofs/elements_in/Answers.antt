-- The first i places hold the elements of the columns: `Filling`.
use Rattle.theory.specs.Prelude.{arith, refl}
use Rattle.pattern_c.specs.Columns.{element_in}
use Rattle.pattern_c.specs.Columns.Laws.{filling-none, filling-more, filling-all}
use Rattle.pattern_c.proofs.elements_in.Goals as goal

pub loop-i-init : goal.loop-i-init
loop-i-init c = filling-none _ _ _ refl

pub bounds-elements-i : goal.bounds-elements-i
bounds-elements-i c = omega (arith, c.loop-i-test.true)

pub loop-i-preserved : goal.loop-i-preserved
loop-i-preserved c = let a = c.args in
    let l = c.loop-i in
    rw (c.kind_from.ensures, c.kind_number.ensures, c.radius_at.ensures)
    (filling-more (element_in a.kinds.now a.radii.now) 64 l.i l.elements (omega (arith, c.loop-i-test.true))
    l.invariant)

pub returns : goal.returns
returns c = let a = c.args in
    filling-all (element_in a.kinds.now a.radii.now) 64 c.loop-i.i c.loop-i.elements c.loop-i-test.false
    c.loop-i.invariant
