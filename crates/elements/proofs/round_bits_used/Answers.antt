-- `elements::round_bits_used` meets its contract: the last byte decides. Assumes nothing.
use Rattle.std.specs.Prelude.{◌+◌, ◌*◌, ◌-◌, ◌/◌, ◌%◌, ◌^◌}
use Rattle.theory.specs.Prelude.{ℕ, sym, ap, ◌∙◌, eqb}
use Rattle.elements.specs.Round.Laws.{last-used}
use Rattle.elements.proofs.round_bits_used.Goals as goal

pub returns : goal.returns
returns c =
    ap (λ (b : ℕ). eqb (b / 2 ^ (2 * ((c.args.n - 1) % 4 + 1))) 0) c.from.ensures
    ∙ sym (last-used c.args.s.now (record { each = λ i. (c.type_inv.s i).fits }) c.args.at c.args.n c.requires.0 c.requires.1)
