-- `pattern_c::pattern_ask` meets its contract: the constraint's numbers, and the answer as a number. Assumes nothing.
use Rattle.theory.specs.Prelude.{rules, ap, ◌∙◌}
use mir.Syntax.{w32}
use mir.Facts.{to_z-of_z}
use Rattle.sheet.specs.declared.Constraint.{Constraint}
use Rattle.records.specs.Record.{as_judgement, ask_field}
use Rattle.pattern_c.specs.Columns.{constraint_from}
use Rattle.pattern_c.specs.Numbers.{as_number}
use Rattle.pattern_c.specs.Numbers.Laws.{counted}
use Rattle.pattern_c.proofs.pattern_ask.Goals as goal

pub returns : goal.returns
returns c = let w = c.verdict_number in
    let a = c.args in
    let of = c.constraint_from-c.ensures
    ∙ ap (constraint_from a.first a.second a.map) (to_z-of_z {w = w32} {z = a.size} (search rules)) in
    counted c.count.result _ _ (record { sfits = c.count.type_inv }) c.count.ensures
    (w.ensures ∙ ap as_number (c.ask_in.ensures ∙ ap (λ (x : Constraint). as_judgement (ask_field a.lent.now x)) of))
