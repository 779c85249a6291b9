-- `engine::triangle` meets its contract. Assumes nothing.
use Rattle.theory.specs.Placement.{triangle}
use Rattle.engine.proofs.triangle.Goals as goal

pub returns : goal.returns
unfolding triangle
returns c = simp (c.against.ensures, c.max-longest.ensures, c.max.ensures)
