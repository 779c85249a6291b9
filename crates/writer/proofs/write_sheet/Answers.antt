-- `writer::write_sheet` meets its contract: the rules first, then the space. Assumes nothing.
use Rattle.std.specs.Prelude.{◌≡◌, Err}
use Rattle.theory.specs.Prelude.{sym, rules}
use Rattle.theory.specs.Rule.{rule_number, by_number}
use Rattle.theory.specs.Rule.Laws as rule
use Rattle.sheet.specs.Answer.Laws.{rule-none, rule-some, answers-refused, answers-items}
use Rattle.writer.proofs.write_sheet.Goals as goal

pub returns-in_err-check_sheet : goal.returns-in_err-check_sheet
returns-in_err-check_sheet c =
    let passed : by_number c.from_residual.result ≡ Err (rule_number c.in_err-check_sheet.field-0.0) = search rules in
    rw passed (answers-refused (rule-some _ _ c.in_err-check_sheet.ensures (rule.rule-some _)))

pub returns : goal.returns
returns c = answers-items c.write_accepted.ensures (rule-none _ (sym c.in_ok-check_sheet.ensures))
