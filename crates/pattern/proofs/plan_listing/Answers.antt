-- `pattern::plan_listing` meets its contract: 11, or the steps of the engine's plan, of the graph that is read. Assumes nothing.
use Rattle.std.specs.Prelude.{◌≡◌, Err}
use Rattle.theory.specs.Prelude.{rules, refl, []}
use Rattle.sheet.specs.Field.{value}
use Rattle.steps.specs.Records.{plan_steps}
use Rattle.pattern.specs.Entries.Reading.{facts-read}
use Rattle.pattern.specs.Entries.Steps.{refused-listed, read-listed}
use Rattle.pattern.proofs.plan_listing.Goals as goal

pub read_graph-requires : goal.read_graph-requires
read_graph-requires c = (refl, refl, refl)

pub returns-in_err-head : goal.returns-in_err-head
returns-in_err-head c =
    let passed : c.from_residual.result ≡ Err c.in_err-head.field-0.0 = search rules in
    rw passed (refused-listed (λ g. value (plan_steps g) []) _ _ c.in_err-head.ensures)

pub plan_steps-requires : goal.plan_steps-requires
plan_steps-requires c = (facts-read c.in_ok-head.ensures).drawn_is

pub returns : goal.returns
returns c = read-listed (λ g. value (plan_steps g) []) _ (facts-read c.in_ok-head.ensures) c.plan_steps.ensures
