-- `reader::read_graph` meets its contract: the sheet in the arrays, and its sizes where it has circles. Assumes nothing.
use Rattle.theory.specs.Prelude.{◌∙◌}
use Rattle.graph.specs.Lent.Sheets.{stands-in}
use Rattle.graph.specs.Lent.Plain.{plain-sizes}
use Rattle.reader.proofs.read_graph.Goals as goal
use Rattle.reader.proofs.read_graph.Goals.{then-h-ne0, else-h-ne0}

pub returns : goal.returns
returns c =
    let t = c.in_ok-h.ensures in (
      t.0,
      t.1,
      t.2,
      rw c.head_of.ensures (stands-in t.3),
      elim c.if-h-ne0.branch [
        | then-h-ne0 w ↦ w.sizes-is ∙ w.measure.ensures t.0 _ t.3
        | else-h-ne0 w ↦ w.sizes-is ∙ plain-sizes t.3 w.if-h-ne0.false
      ],
    )
