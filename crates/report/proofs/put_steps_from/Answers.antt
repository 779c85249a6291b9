-- `report::put_steps_from` meets its contract: the lines of the steps from `t` on are still to be put. Assumes nothing.
use Rattle.std.specs.Prelude.{◌≡◌}
use Rattle.theory.specs.Prelude.{ℕ, arith, sym, ap, subst, List}
use Rattle.theory.specs.declared.Step.{Step}
use Rattle.report.specs.Block.Laws.{stands-as}
use Rattle.engine.specs.Steps.{step_at}
use Rattle.report.specs.Report.{step_line}
use Rattle.report.specs.Pieces.{Small}
use Rattle.report.specs.Report.Laws.{steps_next, steps-none, small_at}
use Rattle.report.specs.Block.{Stands}
use Rattle.report.proofs.Standing.{stands}
use Rattle.report.specs.Going.Laws.{start, put_next, put_last, place}
use Rattle.report.proofs.put_steps_from.Goals as goal

-- a step read from the arrays is small, and its line put, where that holds of the step there
module _ (step : Step) {read : Step} (same : read ≡ step) where
  small-read : Small step → Small read
  small-read h = subst Small (sym same) h

  line_read : {space after : List ℕ} {at next : ℕ} → Stands space at (step_line read) next after
      → Stands space at (step_line step) next after
  line_read p = stands-as (ap step_line same) p

pub loop-t-init : goal.loop-t-init
loop-t-init c = start _

pub step_at-s-requires : goal.step_at-s-requires
step_at-s-requires c = omega arith

pub put_step_line-next-requires : goal.put_step_line-next-requires
put_step_line-next-requires c =
    let a = c.args in
    let l = c.loop-t in
    let steps : ℕ → Step = step_at a.lines a.e a.sizes.now a.start.now a.parts.now a.joints.now in (
      c.requires.0,
      small-read (steps l.t) c.step_at-s.ensures
          (small_at steps a.first a.last l.t c.requires.3 l.auto.t c.loop-t-test.true),
      omega (arith, place stands l.invariant, c.requires.4),
    )

pub loop-t-preserved : goal.loop-t-preserved
loop-t-preserved c =
    let a = c.args in
    let l = c.loop-t in
    let steps : ℕ → Step = step_at a.lines a.e a.sizes.now a.start.now a.parts.now a.joints.now in
    put_next stands (steps_next steps a.last l.t c.loop-t-test.true) l.invariant
    (line_read (steps l.t) c.step_at-s.ensures c.put_step_line-next.ensures)

pub returns : goal.returns
returns c =
    let a = c.args in
    put_last stands
    (steps-none (step_at a.lines a.e a.sizes.now a.start.now a.parts.now a.joints.now) a.last c.loop-t.t c.loop-t-test.false)
    c.loop-t.invariant
