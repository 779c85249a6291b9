-- `search::renew` meets its contract: what the union reaches, the elements that leave the rim, the new links, holders and waiting clusters.
-- Assumes nothing.
use Rattle.theory.specs.Set.{◌∩◌, ◌∪◌}
use Rattle.theory.specs.Merge.{union}
use Rattle.search.proofs.Listing.{one_of, three-of}
use Rattle.search.proofs.Calling.{called, holding, gone_of}
use Rattle.search.proofs.renew.Goals as goal

pub returns : goal.returns
unfolding ◌∩◌ ◌∪◌ union
returns c =
    let dead = three-of c.set_of-dead.ensures in
    let made = one_of c.set_of-made.ensures in
    let near = c.image-near in
    let edge = c.rejoin-found in
    let j = edge.ensures.joined in
    record {
      links_long = j.links_long;
      hold_long = j.hold_long;
      todo_long = c.call_up.ensures.long;
      linking = j.linking;
      holding = holding dead made j.words;
      gone = rw c.without-2.ensures (gone_of edge.ensures.inner);
      reached = edge.result.outs;
      near = near.result;
      reaches = edge.ensures.outs;
      nears = rw (← c.without.ensures) near.ensures;
      calling = called dead made c.call_up.ensures;
    }
