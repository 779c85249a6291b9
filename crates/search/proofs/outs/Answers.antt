-- `search::outs` meets its contract: the loop keeps `Seen`. Assumes nothing.
use Rattle.std.specs.Prelude.{◌≡◌}
use Rattle.theory.specs.Prelude.{rules}
use Rattle.search.proofs.Gather.{seen_none, seen_next, seen_all}
use Rattle.search.proofs.outs.Goals as goal

pub loop-p-init : goal.loop-p-init
loop-p-init c =
    let begins : c.into_iter-p-iterator.result.rest ≡ c.args.edge = cc in
    record { can_next = tt; is_finite = tt; seen = rw begins (seen_none (search rules)) }

pub loop-p-preserved : goal.loop-p-preserved
loop-p-preserved c =
    let step = c.in-Some.ensures.steps in
    record { can_next = tt; is_finite = tt; seen = rw (step.1, step.2) (seen_next c.loop-p.invariant.seen step.0) }

pub returns : goal.returns
returns c = rw c.without.ensures (seen_all c.loop-p.invariant.seen c.args.x c.in-None.ensures.steps.0)
