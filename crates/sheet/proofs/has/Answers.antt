-- `sheet::has` meets its contract: a bit of the number. Assumes nothing.
use Rattle.theory.specs.Set.Laws.{at-div}
use Rattle.sheet.proofs.has.Goals as goal

pub returns : goal.returns
returns c = rw (at-div c.args.i c.args.set)
