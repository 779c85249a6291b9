-- `merges::advance` meets its contract: the loop keeps `Running`. Assumes nothing.
use Rattle.std.specs.Prelude.{◌≡◌, ◌+◌, ◌<◌}
use Rattle.theory.specs.Prelude.{refl, sym, ap, ◌∙◌, inl, inr, arith}
use Rattle.merges.specs.Search.{hit_of}
use Rattle.merges.proofs.Running.{blank-start, running-few, running_kept, running-ended, running-fewer, running-next}
use Rattle.merges.proofs.advance.Goals as goal

pub loop-steps-init : goal.loop-steps-init
loop-steps-init c = let t = c.todo_all-todo.ensures in blank-start c.requires c.join_all.ensures t.0 t.1

pub overflow_add-used : goal.overflow_add-used
overflow_add-used c = omega (arith, c.requires.starts.few, running-few c.loop-steps.invariant)

pub first_open-requires : goal.first_open-requires
first_open-requires c =
    let w = c.loop-steps.invariant in (omega (arith, c.requires.starts.few, running-few w), w.todo_long)

pub returns-in_default : goal.returns-in_default
unfolding running_kept
returns-in_default c =
    let w = c.loop-steps.invariant in
    let f = c.first_open.ensures in (
      c.first_open.new.todo,
      record {
        running = running_kept w f.kept.0 f.kept.1;
        within = omega arith;
        stops = inr (running-ended w (λ ready. ap hit_of (sym c.in_default.is) ∙ f.first ready));
      },
    )

pub offset_bounds-slots-i : goal.offset_bounds-slots-i
offset_bounds-slots-i c =
    let o = c.in-Some.ensures.tested in
    omega (arith, c.requires.starts.few, running-few c.loop-steps.invariant, o.0, o.1, o.2)

pub renew-rim-requires : goal.renew-rim-requires
renew-rim-requires c =
    let w = c.loop-steps.invariant in
    let o = c.in-Some.ensures.tested in
    let few : c.args.e + c.loop-steps.steps < 192 = omega (arith, c.requires.starts.few, running-few w) in
    (omega (arith, o.0, o.1, o.2), omega (arith, o.1, o.2), o.2, few, w.links_long, w.hold_long, c.first_open.ensures.kept.1)

pub step-requires : goal.step-requires
step-requires c =
    let w = c.loop-steps.invariant in
    let o = c.in-Some.ensures.tested in
    let few : c.args.e + c.loop-steps.steps < 192 = omega (arith, c.requires.starts.few, running-few w) in
    (omega (arith, o.0, o.1, o.2), omega (arith, o.1, o.2), o.2, few, running-fewer w _ _ _ o.0 o.1 o.3)

pub loop-steps-preserved : goal.loop-steps-preserved
unfolding running_kept
loop-steps-preserved c =
    let w = c.loop-steps.invariant in
    let o = c.in-Some.ensures.tested in
    let f = c.first_open.ensures in
    running-next (running_kept w f.kept.0 f.kept.1) _ _ _ o.0 o.1 o.3
    (λ fine. ap hit_of (sym c.in-Some.is) ∙ f.first (w.ready fine)) c.renew-rim.ensures c.step.ensures

pub returns : goal.returns
returns c =
    let all : c.loop-steps.steps ≡ c.args.limit = omega arith in
    (c.loop-steps.todo, record { running = rw (← all) c.loop-steps.invariant; within = omega arith; stops = inl refl })
