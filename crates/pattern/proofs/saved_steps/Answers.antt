-- `pattern::saved_steps` meets its contract: a list filled from the listing has what the saved plan gives. Assumes nothing.
use Rattle.steps.specs.Records.Laws.{fills}
use Rattle.pattern.proofs.saved_steps.Goals as goal

pub returns : goal.returns
returns c = fills c.args.out.now c.saved_listing.result c.saved_listing.ensures c.fill.ensures
