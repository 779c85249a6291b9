-- `search::set_of` meets its contract: the loop keeps `Listing`. Assumes nothing.
use Rattle.search.proofs.Listing.{Listing}
use Rattle.search.proofs.set_of.Given as goal

abbrev pub invariant-loop-n : goal.invariant-loop-n
invariant-loop-n l = Listing l.numbers l.set l.n-index
