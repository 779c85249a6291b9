-- `reader::read_codes` meets its contract: all before the constraints, and then the constraints from none on. Assumes nothing.
use Rattle.std.specs.Prelude.{◌≡◌, Err}
use Rattle.theory.specs.Prelude.{sym, rules}
use Rattle.graph.specs.Lent.Laws.{in-arrays-none}
use Rattle.reader.proofs.Sheets.{list-refused, list_read}
use Rattle.reader.proofs.read_codes.Goals as goal

pub returns-in_err-read_constraints : goal.returns-in_err-read_constraints
returns-in_err-read_constraints c =
    let passed : c.from_residual-in_err-read_constraints.result ≡ Err c.in_err-read_constraints.field-0.0 = search rules in
    let front = c.in_ok-h.ensures in
    rw passed
    (list-refused front
    (c.in_err-read_constraints.ensures front.elements (sym front.count) front.kinds_in
    (rw (c.requires.0, c.requires.1, c.requires.2) in-arrays-none)))

pub returns : goal.returns
returns c =
    let front = c.in_ok-h.ensures in
    list_read front (record { each = λ i. (c.type_inv.s i).fits })
    (c.in_ok-read_constraints.ensures front.elements (sym front.count) front.kinds_in
    (rw (c.requires.0, c.requires.1, c.requires.2) in-arrays-none))
