-- `pattern::hold` meets its contract: 11 of the graph that is read, else the sheet out of the arrays. Assumes nothing.
use Rattle.std.specs.Prelude.{◌≡◌, Ok, Err}
use Rattle.theory.specs.Rule.{by_number, rule_number}
use Rattle.theory.specs.Rule.Laws.{rule-some as number-some}
use Rattle.theory.specs.Prelude.{rules, refl, sym, ap, ◌∙◌}
use Rattle.sheet.specs.declared.Sheet.{Sheet}
use Rattle.sheet.specs.Field.{value}
use Rattle.sheet.specs.Graph.{graph_of, over_fault}
use Rattle.sheet.specs.Answer.Laws.{rule-some}
use Rattle.graph.specs.declared.Head.{Head}
use Rattle.graph.specs.Lent.{graph_in}
use Rattle.reader.specs.Answers.{as_reading}
use Rattle.pattern.specs.Entries.{held_sheet}
use Rattle.pattern.specs.Entries.Reading.{sheet-found}
use Rattle.pattern.proofs.hold.Goals as goal

pub read_codes-requires : goal.read_codes-requires
read_codes-requires c = (refl, refl, refl, refl)

pub returns-in_err-front : goal.returns-in_err-front
unfolding held_sheet
returns-in_err-front c =
    let passed : by_number c.from_residual.result ≡ Err (rule_number c.in_err-front.field-0.0) = search rules in
    rw (passed, c.in_err-front.ensures)

pub check_over-requires : goal.check_over-requires
check_over-requires c = rw c.head_of-head.ensures (sheet-found c.in_ok-front.ensures).drawn_is

pub returns-in_err-check_over : goal.returns-in_err-check_over
unfolding held_sheet
returns-in_err-check_over c =
    let f = sheet-found c.in_ok-front.ensures in
    let over-is : rule_number c.in_err-check_over.field-0.0 ≡ over_fault (graph_of f.facts) =
    c.in_err-check_over.ensures
    ∙ ap over_fault (ap (λ (h : Head). graph_in h c.read_codes.new.start) c.head_of-head.ensures ∙ f.graph_read) in
    let passed : by_number c.from_residual-in_err-check_over.result ≡ Err (rule_number c.in_err-check_over.field-0.0) = search rules in
    rw (passed, f.reads) (ap as_reading (sym (rule-some (value f.facts f.rest) _ over-is (number-some _))))

pub sheet_of-requires : goal.sheet_of-requires
sheet_of-requires c =
    let d = (sheet-found c.in_ok-front.ensures).drawn_is in
    (d.sound.most, d.few)

pub returns : goal.returns
unfolding held_sheet
returns c =
    let f = sheet-found c.in_ok-front.ensures in
    let over-is : 0 ≡ over_fault (graph_of f.facts) =
    c.in_ok-check_over.ensures
    ∙ ap over_fault (ap (λ (h : Head). graph_in h c.read_codes.new.start) c.head_of-head.ensures ∙ f.graph_read) in
    rw (f.reads, sym over-is)
    (ap (λ (s : Sheet). Ok s) (c.sheet_of.ensures f.facts _ f.sheet_in))
