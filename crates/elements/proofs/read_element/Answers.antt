-- `elements::read_element` meets its contract: a point and a line have no field, a circle has its radius. Assumes nothing.
use Rattle.theory.specs.Prelude.{sym, drop}
use Rattle.sheet.specs.declared.Kind.TheVariants.{Circle}
use Rattle.elements.specs.Round.Elements.{straight-element, circle-cut, circle-out, circle-read, stored-none, stored-circle}
use Rattle.elements.proofs.read_element.Goals as goal

pub returns-then-k-lt2 : goal.returns-then-k-lt2
returns-then-k-lt2 c =
    let x = straight-element c.args.k c.if-k-lt2.true (drop c.args.c.at c.args.s.now) in
    (x.0, x.1, stored-none x.0 c.args.i c.args.radii.now x.2)

pub returns-in_default : goal.returns-in_default
returns-in_default c =
    circle-cut c.args.k c.if-k-lt2.false (drop c.args.c.at c.args.s.now)
    (sym (rw c.unwrap_err.ensures at c.read_number-number.ensures.result_value))

pub returns-then-not-radius_in_range : goal.returns-then-not-radius_in_range
returns-then-not-radius_in_range c =
    circle-out c.args.k c.if-k-lt2.false (drop c.args.c.at c.args.s.now) (sym c.in-Ok.ensures.result_value) (sym c.if-not-radius_in_range.ensures)

pub returns : goal.returns
returns c = (
  record { kind = Circle c.in-Ok.v },
  circle-read c.args.k c.if-k-lt2.false (drop c.args.c.at c.args.s.now) (sym c.in-Ok.ensures.result_value) (sym c.if-not-radius_in_range.ensures),
  stored-circle c.in-Ok.v c.args.i c.args.radii.now (rw c.told-radii c.requires),
)
