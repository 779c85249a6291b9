-- `held::count_in` meets its contract: the sketch that is read, counted. Assumes nothing.
use Rattle.std.specs.Prelude.{◌≡◌, Err}
use Rattle.theory.specs.Prelude.{rules, refl, sym, ap, ◌∙◌}
use Rattle.theory.specs.Rule.{rule_number, by_number}
use Rattle.held.specs.Held.{held_count_of}
use Rattle.held.specs.Held.Laws.{count-is}
use Rattle.held.proofs.count_in.Goals as goal

pub read_held-requires : goal.read_held-requires
read_held-requires c = (refl, refl, refl, refl)

pub returns-in_err-read_held : goal.returns-in_err-read_held
returns-in_err-read_held c =
    let passed : by_number c.from_residual.result ≡ Err (rule_number c.in_err-read_held.field-0.0) = search rules in
    passed ∙ sym (ap held_count_of c.in_err-read_held.ensures)

pub returns : goal.returns
returns c = count-is c.in_ok-read_held.ensures.2 c.in_ok-read_held.ensures.3
