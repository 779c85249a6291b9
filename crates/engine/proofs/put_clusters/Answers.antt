-- `engine::put_clusters` meets its contract: measured over no space, then written. Assumes nothing.
use Rattle.std.specs.Prelude.{◌≡◌, ◌≤◌, ◌<◌}
use Rattle.theory.specs.Prelude.{[], zero-add, length, take}
use Rattle.space.specs.Space.Laws.{none_left, put_refused, put-done}
use Rattle.engine.specs.Lists.{living_of}
use Rattle.engine.proofs.put_clusters.Goals as goal

pub returns-then-out-count : goal.returns-then-out-count
returns-then-out-count c =
    let a = c.args in
    let none : c.put_all_living-count.new.out ≡ [] = none_left c.put_all_living-count.ensures in
    let h : length a.out.now < length (living_of (take a.used a.slots.now)) =
    rw (none, c.put_all_living-count.ensures.next_is, zero-add) at c.if-out-count.true in
    rw none (put_refused (living_of (take a.used a.slots.now)) a.out.now h)

pub returns : goal.returns
returns c =
    let a = c.args in
    let none : c.put_all_living-count.new.out ≡ [] = none_left c.put_all_living-count.ensures in
    let h : length (living_of (take a.used a.slots.now)) ≤ length a.out.now =
    rw (none, c.put_all_living-count.ensures.next_is, zero-add) at c.if-out-count.false in
    put-done h (rw none at c.put_all_living.ensures)
