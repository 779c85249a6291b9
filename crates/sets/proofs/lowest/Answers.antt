-- `lowest` meets its contract. Assumes nothing.
use Rattle.theory.specs.Prelude.{refl, arith, count_trailing_zeros, trailing_le}
use Rattle.theory.specs.Set.Less.{trailing_at, at-below}
use Rattle.sets.proofs.lowest.Goals as goal

pub overflow_cast-result : goal.overflow_cast-result
overflow_cast-result c = omega (arith, trailing_le 64 c.args.m)

pub returns : goal.returns
returns c = let l = trailing_at 64 c.args.m c.requires (omega arith) in
    (at-below 64 (count_trailing_zeros 64 c.args.m) c.args.m (omega arith) l, l, refl)
