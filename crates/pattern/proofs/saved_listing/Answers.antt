-- `pattern::saved_listing` meets its contract: 11, and the check of the saved plan, of the graph that is read. Assumes nothing.
use Rattle.std.specs.Prelude.{◌≡◌, Err}
use Rattle.theory.specs.Prelude.{rules, refl}
use Rattle.steps.specs.Records.{saved_records}
use Rattle.pattern.specs.Entries.Reading.{facts-read}
use Rattle.pattern.specs.Entries.Steps.{refused-listed, read-listed}
use Rattle.pattern.proofs.saved_listing.Goals as goal

pub read_graph-requires : goal.read_graph-requires
read_graph-requires c = (refl, refl, refl)

pub returns-in_err-head : goal.returns-in_err-head
returns-in_err-head c =
    let passed : c.from_residual.result ≡ Err c.in_err-head.field-0.0 = search rules in
    rw passed (refused-listed (λ g. saved_records g c.args.plan.now) _ _ c.in_err-head.ensures)

pub saved_steps-requires : goal.saved_steps-requires
saved_steps-requires c = (facts-read c.in_ok-head.ensures).drawn_is

pub returns : goal.returns
returns c = read-listed (λ g. saved_records g c.args.plan.now) _ (facts-read c.in_ok-head.ensures) c.saved_steps.ensures
