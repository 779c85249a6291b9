-- `search::join_all` meets its contract: the loop keeps `Begun` of the clusters passed. Assumes nothing.
use Rattle.theory.specs.Prelude.{subst, ℕ, arith}
use Rattle.search.specs.State.{Begun}
use Rattle.search.proofs.Starting.{begun-none, begun-next}
use Rattle.search.proofs.join_all.Goals as goal

pub loop-c-init : goal.loop-c-init
loop-c-init c = rw (c.requires.1, c.requires.2) begun-none

pub loop-c-preserved : goal.loop-c-preserved
loop-c-preserved c = begun-next (omega (arith, c.requires.0)) c.loop-c.invariant c.enter.ensures

pub returns : goal.returns
returns c = subst (λ (n : ℕ). Begun c.args.slots.now n c.loop-c.links c.loop-c.hold) (omega arith) c.loop-c.invariant
