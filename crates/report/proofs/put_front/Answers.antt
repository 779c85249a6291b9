-- `report::put_front` meets its contract: its lines make the front. Assumes nothing.
use Rattle.theory.specs.Prelude.{arith, ℕ, List}
use Rattle.theory.specs.declared.Verdict.{Verdict}
use Rattle.theory.specs.declared.Step.{Step}
use Rattle.engine.specs.Steps.{steps_in}
use Rattle.report.specs.Report.{verdict_line, elements_line, step_lines}
use Rattle.report.specs.Block.{Stands}
use Rattle.report.specs.Block.Laws.{◌then◌}
use Rattle.report.specs.Pieces.{front}
use Rattle.report.specs.Report.Front.{front_length}
use Rattle.report.proofs.put_front.Goals as goal

-- the lines put one after another
front-put : (n e : ℕ) (v : Verdict) (steps : List Step) {b0 b1 b2 b3 : List ℕ} {a0 a1 a2 a3 : ℕ}
    → Stands b0 a0 (verdict_line v) a1 b1 → Stands b1 a1 (elements_line n e) a2 b2 → Stands b2 a2 (step_lines steps) a3 b3
    → Stands b0 a0 (front n e v steps) a3 b3
unfolding front
front-put n e v steps verdict elements lines = verdict then (elements then lines)

pub put_steps-requires : goal.put_steps-requires
put_steps-requires c =
    let a = c.args in
    let steps : List Step = steps_in a.lines a.e a.sizes.now a.start.now a.parts.now a.joints.now a.count in (
      c.requires.0,
      c.requires.2,
      c.requires.3,
      c.requires.4,
      omega (
        arith,
        front_length a.n a.e a.verdict steps,
        c.requires.5,
        c.put_verdict_line-a1.ensures.0.next_is,
        c.put_elements_line-a2.ensures.0.next_is,
      ),
    )

pub returns : goal.returns
returns c =
    let a = c.args in
    front-put a.n a.e a.verdict (steps_in a.lines a.e a.sizes.now a.start.now a.parts.now a.joints.now a.count)
    c.put_verdict_line-a1.ensures.0 c.put_elements_line-a2.ensures.0 c.put_steps.ensures
