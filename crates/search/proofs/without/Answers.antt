-- `search::without` meets its contract: a without what the two share. Assumes nothing.
use Rattle.std.specs.Prelude.{◌-◌}
use Rattle.theory.specs.Prelude.{sym, ap, ◌∙◌, ℕ, arith, bit_and, and_self}
use Rattle.std.specs.Int.Bits.{xor_add_and}
use Rattle.std.proofs.lemmas.Nat.{and_assoc, and_comm, and-not}
use Rattle.search.proofs.without.Goals as goal

pub returns : goal.returns
returns c =
    let a = c.args.a in
    let b = c.args.b in
    let same = sym (and_assoc b a a) ∙ ap (λ (x : ℕ). bit_and x b) (and_self a) in
    let rest = and-not 64 b a c.ranges.b.fits c.ranges.a.fits in
    omega (arith, xor_add_and a (bit_and a b), same, rest, and_comm a b, and_comm a (18446744073709551615 - b))
