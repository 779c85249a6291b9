-- `sheet::check_sheet` meets its contract: the rules in their order. Assumes nothing.
use Rattle.std.specs.Prelude.{◌≤◌, ◌≡◌}
use Rattle.theory.specs.Prelude.{rules, sym, ◌∙◌, true, length, length-take-le}
use Rattle.sheet.specs.declared.Sheet.{Sheet}
use Rattle.sheet.specs.Facts.{facts_of}
use Rattle.sheet.specs.Rules.{elements_in_range, elements_fault, sheet_fault}
use Rattle.sheet.specs.Rules.Laws.{elements-most}
use Rattle.sheet.proofs.check_sheet.Goals as goal

-- the elements have their count
sized : (s : Sheet) → length s.elements ≡ 64 → s.n ≤ 64 → s.n ≡ length (facts_of s).elements
sized s long few = sym (length-take-le _ _ (rw long few))

pub returns-then-not-elements_in_range : goal.returns-then-not-elements_in_range
unfolding sheet_fault
returns-then-not-elements_in_range c = rw (sym c.elements_in_range.ensures ∙ c.if-not-elements_in_range.true)

pub kinds_of-kinds-requires : goal.kinds_of-kinds-requires
kinds_of-kinds-requires c =
    let few : c.args.s.n ≤ 64 = elements-most _ (sym c.elements_in_range.ensures ∙ c.if-not-elements_in_range.false) in
    rw (← sized c.args.s (search rules) few) few

pub returns-then-not-circles_allowed : goal.returns-then-not-circles_allowed
unfolding sheet_fault elements_fault
returns-then-not-circles_allowed c =
    rw (
      sym c.elements_in_range.ensures ∙ c.if-not-elements_in_range.false,
      sym (c.circles_allowed.ensures _ c.kinds_of-kinds.ensures.circles_are) ∙ c.if-not-circles_allowed.true,
    )

pub returns-then-not-radii_in_range : goal.returns-then-not-radii_in_range
unfolding sheet_fault elements_fault
returns-then-not-radii_in_range c =
    rw (
      sym c.elements_in_range.ensures ∙ c.if-not-elements_in_range.false,
      sym (c.circles_allowed.ensures _ c.kinds_of-kinds.ensures.circles_are) ∙ c.if-not-circles_allowed.false,
      sym c.radii_in_range.ensures ∙ c.if-not-radii_in_range.true,
    )

pub returns-then-not-constraints_in_range : goal.returns-then-not-constraints_in_range
unfolding sheet_fault elements_fault
returns-then-not-constraints_in_range c =
    rw (
      sym c.elements_in_range.ensures ∙ c.if-not-elements_in_range.false,
      sym (c.circles_allowed.ensures _ c.kinds_of-kinds.ensures.circles_are) ∙ c.if-not-circles_allowed.false,
      sym c.radii_in_range.ensures ∙ c.if-not-radii_in_range.false,
      sym c.constraints_in_range.ensures ∙ c.if-not-constraints_in_range.true,
    )

pub check_constraints-requires : goal.check_constraints-requires
check_constraints-requires c =
    let few : c.args.s.n ≤ 64 = elements-most _ (sym c.elements_in_range.ensures ∙ c.if-not-elements_in_range.false) in (
      few,
      (_, sized c.args.s (search rules) few, c.kinds_of-kinds.ensures),
    )

pub returns : goal.returns
unfolding sheet_fault elements_fault
returns c =
    let counted : elements_in_range c.args.s.n ≡ true = sym c.elements_in_range.ensures ∙ c.if-not-elements_in_range.false in
    c.check_constraints.ensures _ (sized c.args.s (search rules) (elements-most _ counted)) c.kinds_of-kinds.ensures
    ∙ rw (
      counted,
      sym (c.circles_allowed.ensures _ c.kinds_of-kinds.ensures.circles_are) ∙ c.if-not-circles_allowed.false,
      sym c.radii_in_range.ensures ∙ c.if-not-radii_in_range.false,
      sym c.constraints_in_range.ensures ∙ c.if-not-constraints_in_range.false,
    )
