-- `steps::fill_on` meets its contract: the list of its own is filled. Assumes nothing.
use Rattle.steps.specs.Listing.{filled_of}
use Rattle.steps.proofs.fill_on.Goals as goal

pub returns : goal.returns
unfolding filled_of
returns c = let e = c.fill-answer.ensures in λ i. record { answer = e.0 i; list = e.1 i }
