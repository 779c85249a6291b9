-- `graph::note_ends` meets its contract: both arrays hold one constraint more. Assumes nothing.
use Rattle.graph.specs.Lent.Laws.{ends_more}
use Rattle.graph.proofs.note_ends.Goals as goal

pub returns : goal.returns
returns c = λ cs k n f g h.
    rw (c.pair.ensures, ← f, ← g)
    (ends_more cs k c.args.i n c.requires.0 h (c.note_pair.ensures cs k f g h.ends_noted))
