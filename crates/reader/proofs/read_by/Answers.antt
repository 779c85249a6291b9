-- `reader::read_by` meets its contract: rules 8 and 20 of what the map announces, the size and the tag. Assumes nothing.
use Rattle.theory.specs.Prelude.{rules, drop}
use mir.Facts.{to_z-of_z}
use mir.Syntax.{w32}
use Rattle.reader.proofs.Dimension.{not-allowed, same-radii, no-size-by, size-by}
use Rattle.reader.proofs.read_by.Goals as goal

pub returns-then-not-size_allowed : goal.returns-then-not-size_allowed
returns-then-not-size_allowed c =
    rw (not-allowed c.args.j c.args.k c.args.map (drop c.args.c.at c.args.s.now) c.size_by-size.ensures c.if-not-size_allowed.ensures)

pub returns-then-not-radii_differ : goal.returns-then-not-radii_differ
returns-then-not-radii_differ c =
    rw (same-radii c.args.j c.args.k c.args.map (drop c.args.c.at c.args.s.now) c.size_by-size.ensures c.if-not-size_allowed.ensures
    c.if-not-radii_differ.ensures)

pub returns-in_default : goal.returns-in_default
returns-in_default c =
    rw (
      c.in_default.is,
      no-size-by c.args.j c.args.k c.args.map (drop c.args.c.at c.args.s.now) c.size_by-size.ensures c.if-not-size_allowed.ensures
          c.if-not-radii_differ.ensures c.pair_of.ensures c.in_default.ensures,
    )

pub returns : goal.returns
returns c =
    rw (size-by c.args.j c.args.k c.args.map (drop c.args.c.at c.args.s.now) c.size_by-size.ensures c.if-not-size_allowed.ensures
    c.if-not-radii_differ.ensures c.pair_of.ensures c.in-Ok.ensures)
    (rw (to_z-of_z {w = w32} {z = c.in-Ok.z} (search rules)) at c.pass_tag.ensures)
