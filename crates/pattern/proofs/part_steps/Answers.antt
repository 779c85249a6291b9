-- `pattern::part_steps` meets its contract: the count of the measure. Assumes nothing.
use Rattle.std.specs.Prelude.{◌≡◌, Err}
use Rattle.theory.specs.Rule.{by_number, rule_number}
use Rattle.theory.specs.Prelude.{rules, refl}
use Rattle.pattern.specs.Entries.{part_of}
use Rattle.pattern.specs.Entries.Parts.{steps-counted, steps_refused}
use Rattle.pattern.proofs.part_steps.Goals as goal

pub returns : goal.returns
returns c = steps-counted (part_of c.args.bytes.now c.args.number) c.in_ok-part_size.ensures refl

pub returns-in_err-part_size : goal.returns-in_err-part_size
returns-in_err-part_size c =
    let passed : by_number c.from_residual.result ≡ Err (rule_number c.in_err-part_size.field-0.0) = search rules in
    rw passed (steps_refused (part_of c.args.bytes.now c.args.number) c.in_err-part_size.ensures refl)
