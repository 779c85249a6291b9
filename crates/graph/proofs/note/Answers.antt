-- `graph::note` meets its contract: each array holds one constraint more. Assumes nothing.
use Rattle.theory.specs.Prelude.{rules, ◌∙◌, sym}
use mir.Facts.{to_z-of_z}
use mir.Syntax.{w32}
use Rattle.graph.specs.Lent.Laws.{ends-in, codes-in, in-arrays}
use Rattle.graph.proofs.note.Goals as goal

pub returns : goal.returns
returns c = λ cs k n p h.
    in-arrays (c.note_ends.ensures cs k n p.first_is p.second_is (ends-in h))
    (c.note_code.ensures cs k n (p.code_is ∙ sym (to_z-of_z {w = w32} {z = c.args.z} (search rules))) (codes-in h))
