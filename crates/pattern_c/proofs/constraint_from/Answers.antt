-- `pattern_c::constraint_from` meets its contract: what the map says. Assumes nothing.
use borrow.Author.Rules.{rules}
use mir.Syntax.{w32}
use mir.Facts.{to_z-of_z}
use Rattle.pattern_c.proofs.constraint_from.Goals as goal

pub returns : goal.returns
returns c = rw (c.size_by-size.ensures, to_z-of_z {w = w32} {z = c.args.size} (search rules))
