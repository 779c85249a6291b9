-- `pattern::rewrite` meets its contract: the reader accepts the bytes, and they are copied without their tags. Assumes nothing.
use Rattle.std.specs.Prelude.{◌≡◌, Err}
use Rattle.theory.specs.Rule.{by_number, rule_number}
use Rattle.theory.specs.Prelude.{rules, refl, ◌∙◌}
use Rattle.sheet.specs.Answer.Laws.{answers-refused, answers-items}
use Rattle.pattern.specs.Entries.Reading.{sheet-found}
use Rattle.pattern.specs.Entries.Rewriting.{before-found}
use Rattle.pattern.proofs.rewrite.Goals as goal

pub read_codes-requires : goal.read_codes-requires
read_codes-requires c = (refl, refl, refl, refl)

pub returns-in_err-front : goal.returns-in_err-front
returns-in_err-front c =
    let passed : by_number c.from_residual.result ≡ Err (rule_number c.in_err-front.field-0.0) = search rules in
    rw passed (answers-refused (rw c.in_err-front.ensures))

pub length_before-requires : goal.length_before-requires
length_before-requires c = (sheet-found c.in_ok-front.ensures).drawn_is.sound.most

pub write_untagged-requires : goal.write_untagged-requires
write_untagged-requires c =
    let read = sheet-found c.in_ok-front.ensures in
    c.length_before.ensures ∙ before-found read

pub returns : goal.returns
returns c =
    let read = sheet-found c.in_ok-front.ensures in
    answers-items c.write_untagged.ensures (rw read.reads)
