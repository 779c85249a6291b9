-- `sheet::check_size` meets its contract: the rules in their order. Assumes nothing.
use Rattle.theory.specs.Prelude.{sym, ◌∙◌}
use Rattle.sheet.specs.Rules.{size_fault}
use Rattle.sheet.proofs.check_size.Goals as goal

pub returns-then-not-size_allowed : goal.returns-then-not-size_allowed
unfolding size_fault
returns-then-not-size_allowed c = rw (sym c.size_allowed.ensures ∙ c.if-not-size_allowed.true)

pub returns-then-not-radii_differ : goal.returns-then-not-radii_differ
unfolding size_fault
returns-then-not-radii_differ c = rw (
  sym c.size_allowed.ensures ∙ c.if-not-size_allowed.false,
  sym c.radii_differ.ensures ∙ c.if-not-radii_differ.true,
)

pub returns : goal.returns
unfolding size_fault
returns c = c.check_range.ensures
    ∙ rw (
      c.pair_of.ensures,
      sym c.size_allowed.ensures ∙ c.if-not-size_allowed.false,
      sym c.radii_differ.ensures ∙ c.if-not-radii_differ.false,
    )
