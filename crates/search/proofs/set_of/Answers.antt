-- `search::set_of` meets its contract: the loop keeps `Listing`. Assumes nothing.
use Rattle.std.specs.Prelude.{◌%◌}
use Rattle.theory.specs.Prelude.{refl, arith, get_or}
use Rattle.search.proofs.Storing.{one-shifted}
use Rattle.search.proofs.Listing.{listing-none, listing-next, listing-all}
use Rattle.search.proofs.set_of.Goals as goal

pub loop-n-init : goal.loop-n-init
loop-n-init c = listing-none

pub loop-n-preserved : goal.loop-n-preserved
loop-n-preserved c =
    let n = get_or c.args.numbers.now c.loop-n.n-index 0 in
    rw (one-shifted (n % 64) (omega arith)) (listing-next c.loop-n.invariant n refl (c.requires c.loop-n.n-index c.loop-n-test.true))

pub returns : goal.returns
returns c = listing-all c.loop-n.invariant (omega arith)
