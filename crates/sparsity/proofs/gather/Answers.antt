-- `gather` meets its contract. The loops' invariants: the same constraints use the freedoms in another way; on the way back the freedoms from the
-- place found to place `to` are turned. Assumes nothing.
use Rattle.std.specs.Prelude.{◌≡◌}
use Rattle.std.proofs.lemmas.Bool.Decides.{nat_tests}
use Rattle.theory.specs.Prelude.{arith}
use Rattle.sparsity.specs.Freedoms.{entry, same}
use Rattle.sparsity.specs.Freedoms.Sums.{same-le, free-count}
use Rattle.sparsity.specs.Answer.Laws.{told-set, some-set}
use Rattle.sparsity.specs.Reach.Back.{walk_start, walk-stored, walk_end, again-refl, again-trans, gained-ends}
use Rattle.sparsity.proofs.gather.Goals as goal

pub loop-queue-init : goal.loop-queue-init
loop-queue-init c = again-refl c.args.a c.args.b c.requires.0

pub overflow_add-free_of : goal.overflow_add-free_of
overflow_add-free_of c = omega (arith, same-le)

pub seek-requires : goal.seek-requires
seek-requires c = let s = c.requires in (c.loop-queue.invariant.table, s.1, s.2, s.3)

pub returns-in-Err : goal.returns-in-Err
returns-in-Err c =
    let l = c.loop-queue in
    rw (told-set (some-set c.args.a c.in-Err.ensures.outcome.first)) (
      l.invariant,
      omega (
        arith,
        free-count l.t c.from.ensures c.free_of.ensures,
        free-count l.t c.from-in-loop-queue.ensures c.free_of-in-loop-queue.ensures,
        c.loop-queue-test.true,
      ),
      c.in-Err.ensures.outcome,
    )

pub loop-to-init : goal.loop-to-init
loop-to-init c = let w = c.in-Ok.ensures.outcome in record { way = w; walked = walk_start w }

pub loop-queue-smaller : goal.loop-queue-smaller
loop-queue-smaller c =
    let l = c.loop-queue in
    let w = c.loop-to.invariant.walked in
    let f = c.seek.ensures in
    omega (
      arith,
      free-count l.t c.from.ensures c.free_of.ensures,
      free-count l.t c.from-in-loop-queue.ensures c.free_of-in-loop-queue.ensures,
      (gained-ends f.start f.start' (walk_end w c.loop-to-test.false)).gain,
      c.loop-queue-test.true,
    )

pub loop-queue-preserved : goal.loop-queue-preserved
loop-queue-preserved c =
    let w = c.loop-to.invariant.walked in
    let f = c.seek.ensures in
    again-trans c.loop-queue.invariant (gained-ends f.start f.start' (walk_end w c.loop-to-test.false)).again

pub loop-to-preserved : goal.loop-to-preserved
unfolding same
loop-to-preserved c =
    let t = c.loop-to.t in
    let w = c.loop-to.invariant in
    let y = c.from-y in
    let s : c.from-s.result ≡ same (entry t c.from-x.result 1) y.result = grind (arith, nat_tests) in
    let r : c.from-r.result ≡ same (entry t y.result 1) y.result = grind (arith, nat_tests) in
    record {
      way = w.way;
      walked = walk-stored w.way w.walked c.loop-to-test.true c.from-back.ensures c.from-x.ensures y.ensures s r c.from-x.ensures;
    }

pub returns : goal.returns
returns c =
    let l = c.loop-queue in (
      l.invariant,
      omega (
        arith,
        free-count l.t c.from.ensures c.free_of.ensures,
        free-count l.t c.from-in-loop-queue.ensures c.free_of-in-loop-queue.ensures,
        c.loop-queue-test.false,
      ),
    )
