-- `report::put_set` meets its contract: its numbers begin at 0. Assumes nothing.
use Rattle.report.proofs.Standing.{from_zero}
use Rattle.report.proofs.put_set.Goals as goal

pub returns : goal.returns
returns c = from_zero c.args.set c.put_set_from.ensures.0
