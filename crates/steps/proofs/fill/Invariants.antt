-- `steps::fill` meets its contract: after i turns the first i records are stored. Assumes nothing.
use Rattle.std.specs.Prelude.{◌≡◌}
use Rattle.steps.specs.Listing.{unset}
use Rattle.steps.proofs.Stores.{stores}
use Rattle.steps.proofs.fill.Given as goal

abbrev pub invariant-loop-i : goal.invariant-loop-i
invariant-loop-i l = l.out ≡ stores l.l.steps unset l.initial.out l.i
