-- `records::place` meets its contract: the sheet that is read, the constraint placed in its arrays, and the record of both. Assumes nothing.
use Rattle.std.specs.Prelude.{◌≡◌, Err}
use Rattle.theory.specs.Prelude.{rules, arith, refl, ap, ◌∙◌}
use Rattle.theory.specs.Rule.{rule_number, by_number}
use Rattle.sheet.specs.Facts.{facts_of}
use Rattle.sheet.specs.Rules.{sheet_fault}
use Rattle.sheet.specs.Accepted.Laws.{facts_of-sheet_of, sheet_of-fault}
use Rattle.graph.specs.Lent.Sheets.{drawn-in}
use Rattle.records.specs.Record.Laws.{placed-unread, placed-refused, placed-none, placed-taken}
use Rattle.records.proofs.place.Goals as goal

pub read-requires : goal.read-requires
read-requires c = (refl, refl, refl, refl)

pub returns-in_err-front : goal.returns-in_err-front
returns-in_err-front c =
    let passed : by_number c.from_residual.result ≡ Err (rule_number c.in_err-front.field-0.0) = search rules in
    rw passed (placed-unread _ _ _ c.in_err-front.ensures)

pub place_next-requires : goal.place_next-requires
place_next-requires c = (_, c.in_ok-front.ensures.3)

pub returns-in_err-verdict : goal.returns-in_err-verdict
returns-in_err-verdict c =
    let (f, t, reads, sheet-in) = c.in_ok-front.ensures in
    let passed : by_number c.from_residual-in_err-verdict.result ≡ Err (rule_number c.in_err-verdict.field-0.0) = search rules in
    rw passed (placed-refused _ _ _ reads (c.in_err-verdict.ensures f sheet-in).answer_is refl)

pub overflow_add-next : goal.overflow_add-next
overflow_add-next c = omega (arith, (drawn-in c.in_ok-front.ensures.3).few)

pub sheet_of-requires : goal.sheet_of-requires
sheet_of-requires c =
    let (f, t, reads, sheet-in) = c.in_ok-front.ensures in
    let placed = c.in_ok-verdict.ensures f sheet-in in
    let d = drawn-in (placed.holds (placed-none _ _ _ reads placed.answer_is refl)) in
    (d.sound.most, d.few)

pub write-requires : goal.write-requires
write-requires c =
    let (f, t, reads, sheet-in) = c.in_ok-front.ensures in
    let placed = c.in_ok-verdict.ensures f sheet-in in
    let more = placed.holds (placed-none _ _ _ reads placed.answer_is refl) in
    ap sheet_fault (c.sheet_of.ensures _ _ more) ∙ sheet_of-fault _ more.accepted

pub returns-in_err-write : goal.returns-in_err-write
returns-in_err-write c =
    let (f, t, reads, sheet-in) = c.in_ok-front.ensures in
    let placed = c.in_ok-verdict.ensures f sheet-in in
    let more = placed.holds (placed-none _ _ _ reads placed.answer_is refl) in
    let passed : by_number c.from_residual-in_err-write.result ≡ Err (rule_number c.in_err-write.field-0.0) = search rules in
    rw passed
    (placed-taken _ _ _ reads placed.answer_is refl (ap facts_of (c.sheet_of.ensures _ _ more) ∙ facts_of-sheet_of _) c.in_err-write.ensures refl)

pub returns : goal.returns
returns c =
    let (f, t, reads, sheet-in) = c.in_ok-front.ensures in
    let placed = c.in_ok-verdict.ensures f sheet-in in
    let more = placed.holds (placed-none _ _ _ reads placed.answer_is refl) in
    placed-taken _ _ _ reads placed.answer_is refl (ap facts_of (c.sheet_of.ensures _ _ more) ∙ facts_of-sheet_of _) c.in_ok-write.ensures refl
