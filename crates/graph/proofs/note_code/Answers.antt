-- `graph::note_code` meets its contract: the array holds one number more. Assumes nothing.
use borrow.Author.Rules.{rules}
use mir.Facts.{to_z-of_z}
use mir.Syntax.{w32}
use Rattle.graph.specs.Lent.Laws.{codes-more}
use Rattle.graph.proofs.note_code.Goals as goal

pub returns : goal.returns
returns c = λ cs k n p h.
    rw (to_z-of_z {w = w32} {z = c.args.z} (search rules), ← p) (codes-more cs k c.args.i n c.requires h)
