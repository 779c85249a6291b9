-- `pattern::steps` meets its contract: a list filled from the listing has what the plan gives. Assumes nothing.
use Rattle.steps.specs.Records.Laws.{fills}
use Rattle.pattern.proofs.steps.Goals as goal

pub returns : goal.returns
returns c = fills c.args.out.now c.plan_listing.result c.plan_listing.ensures c.fill.ensures
