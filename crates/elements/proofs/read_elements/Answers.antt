-- `elements::read_elements` meets its contract: the opening decides. Assumes nothing.
use Rattle.elements.proofs.read_elements.Goals as goal

pub returns-in-Pf01 : goal.returns-in-Pf01
returns-in-Pf01 c = rw c.in-Pf01.is (c.read_straight.ensures c.args.radii.now)

pub returns-in-Pf02 : goal.returns-in-Pf02
returns-in-Pf02 c = rw c.in-Pf02.is c.read_round.ensures
