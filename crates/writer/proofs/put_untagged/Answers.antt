-- `writer::put_untagged` meets its contract, by the walk of `Untagged`. Assumes nothing.
use Rattle.std.specs.Prelude.{◌+◌, ◌≤◌, ◌<◌}
use Rattle.theory.specs.Prelude.{arith, ◌∙◌, le_refl, length, length-drop}
use Rattle.space.specs.Space.Laws.{put_as}
use Rattle.sheet.specs.WithoutTags.{listed}
use Rattle.writer.proofs.Untagged.{before-some, take_rest, walk_none, walk-plain, walk-tagged, walked-short, walked_all}
use Rattle.writer.proofs.put_untagged.Goals as goal
use Rattle.writer.proofs.put_untagged.Goals.{else-map-eq1, then-map-eq1, else-loop-test, then-loop-test+then-s-at}

pub overflow_sub-head : goal.overflow_sub-head
overflow_sub-head c = omega (arith, c.requires, before-some c.args.s.now)

pub loop-init : goal.loop-init
loop-init c = record {
  counted =
      c.from-e.ensures
      ∙ c.unwrap_or.ensures
      ∙ rw c.copied.ensures (rw c.requires at (c.get.ensures.lookup.4 (le_refl _) 0));
  walk = rw c.requires (walk_none c.args.out.now c.args.s.now (c.type_inv.s 4).fits);
}

pub put_tagged-to-requires : goal.put_tagged-to-requires
put_tagged-to-requires c = let w = c.loop.invariant.walk in (w.to_in, w.passed, omega arith, omega (arith, c.if-map-eq1.true), omega arith)

pub loop-preserved : goal.loop-preserved
loop-preserved c =
    let w = c.loop.invariant.walk in
    let more : c.loop.counter < listed c.args.s.now = rw c.loop.invariant.counted at c.loop-test.true in
    let room : c.loop.at + 3 ≤ length c.args.s.now = c.if-s-at.false in
    record {
      counted = c.loop.invariant.counted;
      walk = elim c.if-map-eq1.branch [
        | then-map-eq1 t ↦
            rw (t.at-is, t.from-is, t.to-is, t.out-is, t.min-from.ensures, c.from-size.ensures)
            (walk-tagged w more room t.if-map-eq1.true (rw c.from-size.ensures at t.put_tagged-to.ensures))
        | else-map-eq1 t ↦
            rw (t.at-is, t.from-is, t.to-is, t.out-is, c.from-size.ensures) (walk-plain w more room (omega (arith, t.if-map-eq1.false)))
      ];
    }

pub put_text-requires : goal.put_text-requires
put_text-requires c = rw (take_rest c.args.s.now c.loop.from) (omega (arith, length-drop c.loop.from c.args.s.now, c.loop.invariant.walk.to_in))

pub returns : goal.returns
returns c =
    let rest = put_as (take_rest c.args.s.now c.loop.from) c.put_text.ensures in
    elim c.loop-test.branch [
      | else-loop-test t ↦ walked_all c.loop.invariant.walk (rw c.loop.invariant.counted at t.loop-test.false) rest
      | then-loop-test+then-s-at t ↦ walked-short c.loop.invariant.walk t.if-s-at.true rest
    ]
