-- `search::joined` meets its contract: the two elements that z is linked with. Assumes nothing.
use Rattle.std.specs.Prelude.{◌^◌, ◌<◌}
use Rattle.theory.specs.Prelude.{sym, ◌∙◌, arith, and_le_r, get_or}
use Rattle.theory.specs.Set.{◌∩◌}
use Rattle.search.proofs.Two.{joined-none, joined-one, joined-two}
use Rattle.search.proofs.joined.Goals as goal
use Rattle.search.proofs.joined.Goals.{After-elements-near}

-- what z is linked with in x fits a word
fits : (c : After-elements-near) → c.elements-near.result.rest < 2 ^ 64
fits c = omega (arith, c.elements-near.ensures, and_le_r (get_or c.args.links.now c.args.z 0) c.args.x)

pub returns-in_default : goal.returns-in_default
unfolding ◌∩◌
returns-in_default c =
    let s = (goal.at.returns-in_default c).After-elements-near in
    (rw (← c.elements-near.ensures) (joined-none _ _ _ _ (fits s) c.in_default.ensures.steps.0), omega arith)

pub returns-in_default-next : goal.returns-in_default-next
unfolding ◌∩◌
returns-in_default-next c =
    let s = (goal.at.returns-in_default-next c).After-elements-near in
    let one = c.in-Some.ensures.steps in
    (rw (← c.elements-near.ensures) (joined-one _ _ _ _ (fits s) one.0 (sym one.2 ∙ c.in_default-next.ensures.steps.0)), omega arith)

pub returns : goal.returns
unfolding ◌∩◌
returns c =
    let s = (goal.at.returns c).After-elements-near in
    let one = c.in-Some.ensures.steps in
    let two = rw one.2 at c.in-Some-next.ensures.steps in (
      rw (← c.elements-near.ensures) (joined-two _ _ _ _ (fits s) one.0 two.0 _ _ one.1 two.1 c.met.ensures.0),
      c.met.ensures.1,
    )
