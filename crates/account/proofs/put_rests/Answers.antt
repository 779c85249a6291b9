-- `account::put_rests` meets its contract: measured over no space, then written. Assumes nothing.
use Rattle.std.specs.Prelude.{◌≤◌, ◌<◌}
use Rattle.theory.specs.Prelude.{List, ℕ, zero-add, length, take}
use Rattle.space.specs.Space.Laws.{none_left, put_refused, put-done}
use Rattle.account.specs.Resting.Pairs.{pairs_in}
use Rattle.account.proofs.put_rests.Goals as goal

pub returns-then-out-count : goal.returns-then-out-count
returns-then-out-count c =
    let a = c.args in
    let items : List ℕ = pairs_in (take a.used a.slots.now) (take a.used a.low.now) (take a.used a.high.now) in
    let none = none_left c.put_pairs-count.ensures in
    let h : length a.out.now < length items = rw (none, c.put_pairs-count.ensures.next_is, zero-add (length items)) at c.if-out-count.true in
    rw none (put_refused items a.out.now h)

pub returns : goal.returns
returns c =
    let a = c.args in
    let items : List ℕ = pairs_in (take a.used a.slots.now) (take a.used a.low.now) (take a.used a.high.now) in
    let none = none_left c.put_pairs-count.ensures in
    let h : length items ≤ length a.out.now = rw (none, c.put_pairs-count.ensures.next_is, zero-add (length items)) at c.if-out-count.false in
    put-done h (rw none at c.put_pairs.ensures)
