-- `graph::constraint_in` meets its contract: the constraint that was packed comes out. Assumes nothing.
use Rattle.theory.specs.Prelude.{sym, ap, ◌∙◌, count_trailing_zeros}
use mir.Facts.{to_z-of_z}
use Rattle.graph.specs.Lent.Laws.{pair-lowest, pair-highest, constraint-is}
use Rattle.graph.proofs.constraint_in.Goals as goal

pub returns : goal.returns
returns c = λ k u e is.
    let high = c.checked_ilog2.ensures in
    constraint-is
    (ap (count_trailing_zeros 64) e ∙ pair-lowest k.first k.second u.ascend u.below)
    (c.unwrap_or.ensures
    ∙ pair-highest k.first k.second u.ascend u.below c.checked_ilog2.result (rw e at high.none) (rw e at high.power_le) (rw e at high.next_power_gt))
    (c.size_from.ensures k.size u.fits (is ∙ sym (to_z-of_z c.ranges.code)))
