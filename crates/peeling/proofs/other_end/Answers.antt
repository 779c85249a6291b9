-- `other_end` meets its contract. Assumes nothing.
use Rattle.std.specs.Prelude.{◌-◌, ◌^◌, ◌<◌}
use Rattle.theory.specs.Prelude.{sym, subst, ℕ, arith}
use Rattle.theory.specs.Set.{◌∈◌}
use Rattle.theory.specs.Set.Less.{at_room, less-in, less-some}
use Rattle.peeling.proofs.other_end.Goals as goal

pub overflow_sub-pair : goal.overflow_sub-pair
overflow_sub-pair c = omega (arith, at_room c.args.a c.args.pair c.requires.2)

pub lowest-requires : goal.lowest-requires
lowest-requires c = let s = c in
    subst (λ (z : ℕ). 0 < s.args.pair - z) (sym c.single.ensures)
    (less-some s.args.a s.args.pair s.requires.2 (omega (arith, s.requires.0)))

pub returns : goal.returns
returns c = let s = c in
    let l = c.lowest in
    let i : l.result ∈ s.args.pair - 2 ^ s.args.a =
    subst (λ (z : ℕ). l.result ∈ s.args.pair - z) c.single.ensures l.ensures.1 in
    let o = less-in s.args.a l.result s.args.pair s.requires.2 i in
    (l.ensures.0, o.0, o.1)
