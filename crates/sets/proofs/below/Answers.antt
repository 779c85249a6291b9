-- `sets::below` meets its contract. Assumes nothing.
use Rattle.std.specs.Prelude.{◌≡◌}
use Rattle.theory.specs.Prelude.{ap, min, arith, pow_pos}
use Rattle.theory.specs.Set.{full}
use Rattle.sets.proofs.below.Goals as goal

pub returns-then-n-ge-ELEMENTS : goal.returns-then-n-ge-ELEMENTS
unfolding full
returns-then-n-ge-ELEMENTS c = let most : 64 ≡ min c.args.n 64 = omega arith in ap full most

pub overflow_sub-result : goal.overflow_sub-result
overflow_sub-result c = omega (arith, c.single.ensures, pow_pos c.args.n)

pub returns : goal.returns
unfolding full
returns c = let n = c.args.n in let less : n ≡ min n 64 = omega arith in rw c.single.ensures (ap full less)
