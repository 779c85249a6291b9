-- `reader::read_ends` meets its contract: the rules in their order, each after the bytes that it rules. Assumes nothing.
use Rattle.theory.specs.Prelude.{arith, sym}
use Rattle.sheet.specs.Rules.Laws.{ends-true}
use Rattle.sheet.specs.Decode.{constraint}
use Rattle.reader.proofs.read_ends.Goals as goal

pub returns-in_default-clause-result_value : goal.returns-in_default-clause-result_value
unfolding constraint
returns-in_default-clause-result_value c es cs en h = rw (← c.read_byte-start.ensures, c.unwrap_err.ensures)

pub returns-in_default-end-clause-result_value : goal.returns-in_default-end-clause-result_value
unfolding constraint
returns-in_default-end-clause-result_value c es cs en h = rw (← c.in-Ok.ensures, ← c.read_byte-end.ensures, c.unwrap_err-in_default-end.ensures)

pub returns-then-not-ends_ascend-clause-result_value : goal.returns-then-not-ends_ascend-clause-result_value
unfolding constraint
returns-then-not-ends_ascend-clause-result_value c es cs en h =
    rw (← c.in-Ok.ensures, ← c.in-Ok-end.ensures, rw en at (sym c.if-not-ends_ascend.ensures))

pub pair_stands-requires : goal.pair_stands-requires
pair_stands-requires c = let h = ends-true _ _ _ (sym c.if-not-ends_ascend.ensures) in (h.0, omega (arith, h, c.requires))

pub returns-then-pair_stands-clause-result_value : goal.returns-then-pair_stands-clause-result_value
unfolding constraint
returns-then-pair_stands-clause-result_value c es cs en h =
    rw (
      ← c.in-Ok.ensures,
      ← c.in-Ok-end.ensures,
      rw en at (sym c.if-not-ends_ascend.ensures),
      sym (c.if-pair_stands.ensures cs h),
    )

pub returns-clause-result_value : goal.returns-clause-result_value
unfolding constraint
returns-clause-result_value c es cs en h =
    rw (
      ← c.in-Ok.ensures,
      ← c.in-Ok-end.ensures,
      rw en at (sym c.if-not-ends_ascend.ensures),
      sym (c.if-pair_stands.ensures cs h),
    )

pub returns-clause-ascending : goal.returns-clause-ascending
returns-clause-ascending c = ends-true _ _ _ (sym c.if-not-ends_ascend.ensures)
