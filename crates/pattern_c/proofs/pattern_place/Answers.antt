-- `pattern_c::pattern_place` meets its contract: the constraint's numbers, the answer as a number, and the record as it is left. Assumes nothing.
use Rattle.theory.specs.Prelude.{rules, ap, ◌∙◌}
use mir.Syntax.{w32}
use mir.Facts.{to_z-of_z}
use Rattle.sheet.specs.declared.Constraint.{Constraint}
use Rattle.sheet.specs.Answer.{after_to}
use Rattle.records.specs.Record.{place_field, written_field, placed_in}
use Rattle.pattern_c.specs.Columns.{constraint_from}
use Rattle.pattern_c.specs.Numbers.{as_number}
use Rattle.pattern_c.specs.Numbers.Laws.{counted}
use Rattle.pattern_c.proofs.pattern_place.Goals as goal

pub returns : goal.returns
returns c = let w = c.verdict_number in
    let a = c.args in
    let of = c.constraint_from-c.ensures
    ∙ ap (constraint_from a.first a.second a.map) (to_z-of_z {w = w32} {z = a.size} (search rules)) in
    let p = c.place_in.ensures in
    record {
      answer_is =
          counted c.count.result _ _ (record { sfits = c.count.type_inv }) c.count.ensures
          (w.ensures ∙ ap as_number (p.0 ∙ ap (λ (y : Constraint). placed_in (place_field a.lent.now y a.held) a.lent.now) of));
      left_is = p.1 ∙ ap (λ (y : Constraint). after_to (written_field (place_field a.lent.now y a.held)) a.lent.now) of;
    }
