-- `pattern::saved_step_numbers` meets its contract: the numbers of the list that was filled. Assumes nothing.
use Rattle.std.specs.Prelude.{◌≡◌, Err}
use Rattle.theory.specs.Prelude.{rules, arith, length}
use Rattle.pattern.specs.Entries.{saved_steps_field}
use Rattle.pattern.specs.Entries.Steps.{listed-numbers, refused-numbers}
use Rattle.pattern.proofs.saved_step_numbers.Goals as goal

pub returns-in_err-l : goal.returns-in_err-l
returns-in_err-l c =
    let passed : c.from_residual.result ≡ Err c.in_err-l.field-0.0 = search rules in
    rw passed (refused-numbers (saved_steps_field c.args.bytes.now c.args.plan.now) c.in_err-l.ensures)

pub returns : goal.returns
returns c =
    let long : length c.in_ok-l.l.steps ≡ 62 = omega arith in
    listed-numbers c.in_ok-l.l.steps c.in_ok-l.ensures long c.fill_on-filled.ensures c.put_numbers.ensures
