-- `search::lowest_reaching` meets its contract: the loops keep `Swept`. Assumes nothing.
use Rattle.std.specs.Prelude.{◌≡◌, ◌^◌, ◌<◌}
use Rattle.theory.specs.Prelude.{get_or}
use Rattle.search.proofs.Swept.{Swept}
use Rattle.search.proofs.lowest_reaching.Given as goal

abbrev pub invariant-loop-w : goal.invariant-loop-w
invariant-loop-w l = Swept l.slots l.links l.rim l.fn.todo l.todo l.w

abbrev pub invariant-loop-x : goal.invariant-loop-x
invariant-loop-x l = record {
  can_next : (goal.iterator-loop-x).can_next l.waiting;
  is_finite : (goal.iterator-loop-x).is_finite l.waiting;
  swept : Swept l.slots l.links l.rim l.fn.todo l.todo l.w;
  word : get_or l.todo l.w 0 ≡ l.waiting.rest;
  fits : l.waiting.rest < 2 ^ 64;
}
