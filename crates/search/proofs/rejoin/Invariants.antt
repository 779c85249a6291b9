-- `search::rejoin` meets its contract: the loop over the edge keeps `Rejoining`, the one over the words `Placed`. Assumes nothing.
use Rattle.std.specs.Prelude.{◌+◌, ◌*◌}
use Rattle.theory.specs.Prelude.{get_or}
use Rattle.search.specs.Words.{replaced_at}
use Rattle.search.proofs.Storing.{Placed}
use Rattle.search.proofs.Rejoining.{Rejoining}
use Rattle.search.proofs.rejoin.Given as goal

abbrev pub invariant-loop-rest : goal.invariant-loop-rest
invariant-loop-rest l = Rejoining l.initial.links l.initial.hold l.edge l.u l.dead l.made l.links l.hold l.rest l.once l.twice l.inner

abbrev pub invariant-loop-w : goal.invariant-loop-w
invariant-loop-w l =
    Placed (λ v. 64 * v + l.p) (λ v. replaced_at l.dead l.made v (get_or l.initial.hold (64 * v + l.p) 0)) l.initial.hold l.hold l.w

abbrev pub decreases-loop-rest : goal.decreases-loop-rest
decreases-loop-rest l = l.rest
