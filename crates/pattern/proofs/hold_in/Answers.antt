-- `pattern::hold_in` meets its contract: 11 of the graph that is read, else the record of the sheet out of the arrays. Assumes nothing.
use Rattle.std.specs.Prelude.{◌≡◌, Err}
use Rattle.theory.specs.Rule.{by_number, rule_number}
use Rattle.theory.specs.Rule.Laws.{rule-some as number-some}
use Rattle.theory.specs.Prelude.{rules, refl, sym, ap, ◌∙◌}
use Rattle.sheet.specs.Facts.{facts_of}
use Rattle.sheet.specs.Field.{value}
use Rattle.sheet.specs.Rules.{sheet_fault}
use Rattle.sheet.specs.Accepted.Laws.{facts_of-sheet_of, sheet_of-fault}
use Rattle.sheet.specs.Graph.{graph_of, over_fault}
use Rattle.sheet.specs.Answer.Laws.{rule-some, answers-refused, answers-items}
use Rattle.graph.specs.declared.Head.{Head}
use Rattle.graph.specs.Lent.{graph_in}
use Rattle.pattern.specs.Entries.{held_sheet}
use Rattle.pattern.specs.Entries.Reading.{sheet-found}
use Rattle.pattern.proofs.hold_in.Goals as goal

pub read_codes-requires : goal.read_codes-requires
read_codes-requires c = (refl, refl, refl, refl)

pub returns-in_err-front : goal.returns-in_err-front
unfolding held_sheet
returns-in_err-front c =
    let passed : by_number c.from_residual.result ≡ Err (rule_number c.in_err-front.field-0.0) = search rules in
    rw passed (answers-refused (rw c.in_err-front.ensures))

pub check_over-requires : goal.check_over-requires
check_over-requires c = rw c.head_of.ensures (sheet-found c.in_ok-front.ensures).drawn_is

pub returns-in_err-check_over : goal.returns-in_err-check_over
unfolding held_sheet
returns-in_err-check_over c =
    let f = sheet-found c.in_ok-front.ensures in
    let over-is : rule_number c.in_err-check_over.field-0.0 ≡ over_fault (graph_of f.facts) =
    c.in_err-check_over.ensures
    ∙ ap over_fault (ap (λ (h : Head). graph_in h c.read_codes.new.start) c.head_of.ensures ∙ f.graph_read) in
    let passed : by_number c.from_residual-in_err-check_over.result ≡ Err (rule_number c.in_err-check_over.field-0.0) = search rules in
    rw passed (answers-refused (rw (f.reads, rule-some (value f.facts f.rest) _ over-is (number-some _))))

pub sheet_of-sheet-requires : goal.sheet_of-sheet-requires
sheet_of-sheet-requires c =
    let d = (sheet-found c.in_ok-front.ensures).drawn_is in
    (d.sound.most, d.few)

pub write-requires : goal.write-requires
write-requires c =
    let f = sheet-found c.in_ok-front.ensures in
    ap sheet_fault (c.sheet_of-sheet.ensures f.facts _ f.sheet_in) ∙ sheet_of-fault f.facts f.sheet_in.accepted

pub returns : goal.returns
unfolding held_sheet
returns c =
    let f = sheet-found c.in_ok-front.ensures in
    let over-is : 0 ≡ over_fault (graph_of f.facts) =
    c.in_ok-check_over.ensures
    ∙ ap over_fault (ap (λ (h : Head). graph_in h c.read_codes.new.start) c.head_of.ensures ∙ f.graph_read) in
    let sheet-is : facts_of c.sheet_of-sheet.result ≡ f.facts =
    ap facts_of (c.sheet_of-sheet.ensures f.facts _ f.sheet_in) ∙ facts_of-sheet_of f.facts in
    answers-items c.write.ensures (rw (f.reads, sym over-is, sheet-is))
