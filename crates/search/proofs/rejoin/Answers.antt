-- `search::rejoin` meets its contract: the loop over the edge keeps `Rejoining`, the one over the words `Placed`. Assumes nothing.
use Rattle.std.specs.Prelude.{◌≡◌, ◌-◌}
use Rattle.theory.specs.Prelude.{ap, ◌∙◌, arith, rules, and_le_r, bit_and}
use Rattle.theory.specs.Set.{◌∩◌}
use Rattle.search.specs.Words.{replaced_at}
use Rattle.search.proofs.Gather.{seen_all}
use Rattle.search.proofs.Storing.{Innerly, placed-none, placed-next}
use Rattle.search.proofs.Rejoining.{rejoining-none, rejoining-inner, rejoining-other, rejoining-next, rejoining-all}
use Rattle.search.proofs.rejoin.Goals as goal
use Rattle.search.proofs.rejoin.Goals.{then-l-u, else-l-u}

pub loop-rest-init : goal.loop-rest-init
loop-rest-init c = rejoining-none (search rules) c.requires.0 c.requires.1

pub loop-w-init : goal.loop-w-init
loop-w-init c = placed-none

pub loop-w-preserved : goal.loop-w-preserved
loop-w-preserved c =
    rw c.without.ensures (
    placed-next c.loop-w.invariant (λ v l e. omega arith)
    (omega (arith, c.from-p.ensures, c.lowest.ensures.0, c.loop-rest.invariant.joining.hold_long))
    (λ old. ap (replaced_at c.args.dead c.args.made c.loop-w.w) old)
    )

pub loop-rest-smaller : goal.loop-rest-smaller
unfolding ◌∩◌
loop-rest-smaller c = omega (arith, c.without_lowest-next.ensures, and_le_r c.loop-rest.rest (c.loop-rest.rest - 1), c.loop-rest-test.true)

pub loop-rest-preserved : goal.loop-rest-preserved
unfolding ◌∩◌
loop-rest-preserved c =
    let p = c.from-p.result in
    let keeps = c.loop-rest.invariant in
    let some = c.loop-rest-test.true in
    let r = c.loop-rest.rest in
    let is = c.from-p.ensures ∙ c.lowest.ensures.2 in
    let next : c.without_lowest-next.result ≡ bit_and r (r - 1) = c.without_lowest-next.ensures in
    let inner : Innerly c.args.links.now c.args.edge c.args.u (bit_and r (r - 1)) c.if-l-u.inner = elim c.if-l-u.branch [
      | then-l-u w ↦ rw (w.inner-is, next) (rejoining-inner keeps p is some w.if-l-u.true)
      | else-l-u w ↦ rw w.inner-is (rejoining-other keeps p is some)
    ] in
    rw next (rejoining-next keeps p is some c.loop-w.invariant c.loop-w-test.false inner)

pub returns-clause-joined : goal.returns-clause-joined
returns-clause-joined c = rejoining-all c.loop-rest.invariant c.loop-rest-test.false (search rules) c.requires.0

pub returns-clause-outs : goal.returns-clause-outs
returns-clause-outs c = rw c.without-2.ensures (seen_all c.loop-rest.invariant.seen c.args.u c.loop-rest-test.false)

pub returns-clause-inner : goal.returns-clause-inner
returns-clause-inner c = c.loop-rest.invariant.innerly.inner
