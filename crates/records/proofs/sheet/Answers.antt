-- `records::sheet` meets its contract: the sketch that is read, written. Assumes nothing.
use Rattle.std.specs.Prelude.{◌≡◌, Err}
use Rattle.theory.specs.Prelude.{rules, refl, ap, ◌∙◌}
use Rattle.theory.specs.Rule.{rule_number, by_number}
use Rattle.sheet.specs.Facts.{facts_of}
use Rattle.sheet.specs.Rules.{sheet_fault}
use Rattle.sheet.specs.Accepted.Laws.{facts_of-sheet_of, sheet_of-fault}
use Rattle.sheet.specs.Answer.Laws.{answers-refused, answers-items}
use Rattle.graph.specs.Lent.Sheets.{drawn-in}
use Rattle.records.specs.Record.Laws.{sheet-refused, sheet-value}
use Rattle.records.proofs.sheet.Goals as goal

pub read_held-requires : goal.read_held-requires
read_held-requires c = (refl, refl, refl, refl)

pub returns-in_err-front : goal.returns-in_err-front
returns-in_err-front c =
    let passed : by_number c.from_residual.result ≡ Err (rule_number c.in_err-front.field-0.0) = search rules in
    rw passed (answers-refused (sheet-refused _ c.in_err-front.ensures))

pub sheet_of-held-requires : goal.sheet_of-held-requires
sheet_of-held-requires c = let d = drawn-in c.in_ok-front.ensures.3 in (d.sound.most, d.few)

pub write_accepted-requires : goal.write_accepted-requires
write_accepted-requires c =
    let (f, t, reads, sheet-in) = c.in_ok-front.ensures in
    ap sheet_fault (c.sheet_of-held.ensures f _ sheet-in) ∙ sheet_of-fault f sheet-in.accepted

pub returns : goal.returns
returns c =
    let (f, t, reads, sheet-in) = c.in_ok-front.ensures in
    answers-items c.write_accepted.ensures (sheet-value _ reads (ap facts_of (c.sheet_of-held.ensures f _ sheet-in) ∙ facts_of-sheet_of f))
