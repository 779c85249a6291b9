-- The first i places hold the first i numbers: `Filling`, which ends where the list has no place left or the file no number.
use native.Mathlib.Omega.{arith}
use mathlib.Core.Logic.{inl, inr}
use Rattle.console.proofs.Counting.{counts}
use Rattle.console.specs.Numbers.Laws.{filling-none, filling-more, filled}
use Rattle.console.proofs.numbers.Goals as goal

pub loop-i-init : goal.loop-i-init
loop-i-init c = filling-none c.args.bytes.now c.args.list.now

pub returns-then-bytes-i : goal.returns-then-bytes-i
returns-then-bytes-i c =
    let l = c.loop-i in
    let all = filled l.invariant (inr c.if-bytes-i.true) in
    record { prefix_len = counts l.i l.list (omega (arith, l.invariant.long, l.invariant.within)); value = all.0; list_after = all.1 }

pub loop-i-preserved : goal.loop-i-preserved
loop-i-preserved c = filling-more c.loop-i.invariant c.number.result (omega arith) c.if-bytes-i.false c.number.ensures

pub returns : goal.returns
returns c =
    let l = c.loop-i in
    let all = filled l.invariant (inl (omega (arith, c.loop-i-test.false, l.invariant.long))) in
    record { prefix_len = counts l.i l.list (omega (arith, l.invariant.long, l.invariant.within)); value = all.0; list_after = all.1 }
