-- `seek` meets its contract. The loops' invariants: the queue has what is reached so far, none of it has a free entry, and the first p places are
-- scanned, and of the element at place p the first s entries. Assumes nothing.
use Rattle.std.specs.Prelude.{◌<◌}
use Rattle.theory.specs.Prelude.{sym, ◌∙◌, arith}
use Rattle.theory.specs.Set.Less.{meets_at, misses-at}
use Rattle.sparsity.specs.Freedoms.Sums.{free-count}
use Rattle.sparsity.specs.Reach.Visits.{reached-most}
use Rattle.sparsity.specs.Reach.Laws.{searched_none, scan-none, scan-known, scan-fits, scan-found, scan-new, searched-stuck}
use Rattle.sparsity.proofs.seek.Goals as goal
use Rattle.sparsity.proofs.seek.Goals.{Then-seen-bit-eq0, then-seen-bit-eq0+else-free_of-ne0, else-seen-bit-eq0}

pub loop-p-init : goal.loop-p-init
loop-p-init c = let s = c.requires in
    searched_none c.args.own c.args.a c.args.b s.1 s.2 s.3 (record { places = c.told-queue; places' = c.told-from }) c.pair-seen.ensures

pub bounds-queue-p : goal.bounds-queue-p
bounds-queue-p c = omega (arith, reached-most c.loop-p.invariant.reached)

pub loop-s-init : goal.loop-s-init
loop-s-init c = scan-none c.loop-p.invariant c.loop-p-test.true c.from-x.ensures

fits : (c : Then-seen-bit-eq0) → c.loop-s.count < 64
fits c = let l = c.loop-s in
    scan-fits c.requires.0 l.invariant c.loop-s-test.true (misses-at _ l.seen _ c.single-bit.ensures c.if-seen-bit-eq0.true)

pub bounds-queue-count : goal.bounds-queue-count
bounds-queue-count c = fits (goal.at.bounds-queue-count c).Then-seen-bit-eq0

pub bounds-from-count : goal.bounds-from-count
bounds-from-count c = fits (goal.at.bounds-from-count c).Then-seen-bit-eq0

pub returns-then-free_of-ne0 : goal.returns-then-free_of-ne0
returns-then-free_of-ne0 c = let l = c.loop-s in
    scan-found c.requires.0 l.invariant c.loop-s-test.true (misses-at _ l.seen _ c.single-bit.ensures c.if-seen-bit-eq0.true)
    (omega (arith, free-count c.args.own c.from.ensures c.free_of.ensures, c.if-free_of-ne0.true))

pub loop-s-preserved : goal.loop-s-preserved
loop-s-preserved c =
    let t = c.requires.0 in
    let l = c.loop-s in
    let w = l.invariant in
    let s = c.loop-s-test.true in
    elim c.if-seen-bit-eq0.branch [
      | then-seen-bit-eq0+else-free_of-ne0 v ↦ rw (v.queue-is, v.from-is, v.seen-is, v.count-is)
          (scan-new t w s (misses-at _ l.seen _ c.single-bit.ensures v.if-seen-bit-eq0.true)
          (sym (free-count c.args.own v.from.ensures v.free_of.ensures) ∙ v.if-free_of-ne0.false) c.single-bit.ensures)
      | else-seen-bit-eq0 v ↦ rw (v.queue-is, v.from-is, v.seen-is, v.count-is)
          (scan-known t w s (meets_at _ l.seen _ c.single-bit.ensures v.if-seen-bit-eq0.false))
    ]

pub returns : goal.returns
returns c = searched-stuck c.loop-p.invariant c.loop-p-test.false
