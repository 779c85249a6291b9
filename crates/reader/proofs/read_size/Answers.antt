-- `reader::read_size` meets its contract. Assumes nothing.
use Rattle.std.specs.Prelude.{◌≡◌}
use Rattle.theory.specs.Prelude.{false, true, rules}
use mir.Syntax.{w32}
use mir.Facts.{to_z-of_z}
use Rattle.sheet.specs.Field.{signed32}
use Rattle.sheet.specs.Rules.{size_in_range}
use Rattle.sheet.specs.Decode.{size}
use Rattle.reader.proofs.read_size.Goals as goal

pub returns-in_default : goal.returns-in_default
unfolding size
returns-in_default c = rw (← c.read_number-number.ensures.result_value, c.unwrap_err.ensures)

pub returns-then-not-size_in_range : goal.returns-then-not-size_in_range
unfolding size
returns-then-not-size_in_range c =
    let range : false ≡ size_in_range c.args.p (signed32 c.in-Ok.u) =
    rw (to_z-of_z {w = w32} {z = c.cast_signed-z.result} (search rules), c.cast_signed-z.ensures) at c.if-not-size_in_range.ensures in
    rw (← c.in-Ok.ensures.result_value, ← range)

pub returns : goal.returns
unfolding size
returns c =
    let range : true ≡ size_in_range c.args.p (signed32 c.in-Ok.u) =
    rw (to_z-of_z {w = w32} {z = c.cast_signed-z.result} (search rules), c.cast_signed-z.ensures) at c.if-not-size_in_range.ensures in
    rw (to_z-of_z {w = w32} {z = c.cast_signed-z.result} (search rules), c.cast_signed-z.ensures, ← c.in-Ok.ensures.result_value, ← range)
