-- `engine::step_at` meets its contract. Assumes nothing.
use Rattle.engine.specs.Steps.{step_from}
use Rattle.engine.proofs.step_at.Goals as goal

pub returns : goal.returns
unfolding step_from
returns c = simp (
  c.ways_of-ways.ensures,
  c.joint_kind-kind.ensures,
  c.from-k.ensures,
  c.from-j.ensures,
  c.from-i.ensures,
)
