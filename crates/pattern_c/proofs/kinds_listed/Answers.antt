-- `pattern_c::kinds_listed` meets its contract: the kinds before i are listed. Assumes nothing.
use Rattle.std.specs.Prelude.{◌≡◌}
use Rattle.theory.specs.Prelude.{arith, sym, ap, ◌∙◌}
use Rattle.pattern_c.specs.Columns.{kinds_listed}
use Rattle.pattern_c.specs.Columns.Laws.{kinds-none-listed, kinds-more, kinds-none}
use Rattle.pattern_c.proofs.kinds_listed.Goals as goal

pub loop-i-init : goal.loop-i-init
loop-i-init c = (omega arith, kinds-none-listed _)

pub returns-then-kind_number-gt2 : goal.returns-then-kind_number-gt2
returns-then-kind_number-gt2 c = let l = c.loop-i in
    sym (kinds-none c.args.kinds.now _ l.i c.loop-i-test.true
    (rw (← c.kind_number.ensures) c.if-kind_number-gt2.true))

pub loop-i-preserved : goal.loop-i-preserved
loop-i-preserved c = let l = c.loop-i in (
  omega (arith, c.loop-i-test.true),
  kinds-more _ l.i l.invariant.1
      (rw (← c.kind_number.ensures) c.if-kind_number-gt2.false),
)

pub returns : goal.returns
returns c = let l = c.loop-i in
    let n = c.args.n in
    let e : l.i ≡ n = omega (arith, c.loop-i-test.false, l.invariant.0) in
    sym l.invariant.1 ∙ ap (kinds_listed c.args.kinds.now) e
