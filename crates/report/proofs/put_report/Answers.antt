-- `report::put_report` meets its contract: its front and its clusters make the report. Assumes nothing.
use Rattle.std.specs.Prelude.{◌+◌}
use Rattle.theory.specs.Prelude.{arith, ℕ, List, take}
use Rattle.theory.specs.declared.Verdict.{Verdict}
use Rattle.theory.specs.declared.Step.{Step}
use Rattle.engine.specs.Steps.{steps_in}
use Rattle.report.specs.Block.{Stands}
use Rattle.report.specs.Block.Laws.{stands-as, ◌then◌}
use Rattle.report.specs.Report.{cluster_lines, report}
use Rattle.report.specs.Pieces.{wide, front}
use Rattle.report.specs.Report.Front.{front-clusters, clusters-long}
use Rattle.report.proofs.put_report.Goals as goal

-- the parts put one after another
report-put : (n e : ℕ) (v : Verdict) (steps : List Step) (finals rests space : List ℕ) {s1 s2 : List ℕ} {a1 a2 : ℕ}
    → Stands space 0 (front n e v steps) a1 s1 → Stands s1 a1 (cluster_lines 0 finals rests) a2 s2
    → Stands space 0 (report n e v steps finals rests) a2 s2
report-put n e v steps finals rests space p q = stands-as (front-clusters n e v steps finals rests) (p then q)

pub put_front-a1-requires : goal.put_front-a1-requires
put_front-a1-requires c =
    let a = c.args in
    let r = c.requires.n_bound in (
      c.requires.numerals,
      r.0,
      r.1,
      r.2,
      r.6,
      omega (
        arith,
        clusters-long a.n a.e a.verdict (steps_in a.lines a.e a.sizes.now a.start.now a.parts.now a.joints.now a.count)
            (take (a.e + a.count) a.slots.now) (take (a.e + a.count) (wide a.low.now a.high.now)),
        c.requires.high_len_bound,
      ),
    )

pub put_clusters-requires : goal.put_clusters-requires
put_clusters-requires c =
    let a = c.args in
    let r = c.requires.n_bound in (
      c.requires.numerals,
      omega (arith, r.1, r.2),
      r.3,
      r.4,
      r.5,
      omega (
        arith,
        clusters-long a.n a.e a.verdict (steps_in a.lines a.e a.sizes.now a.start.now a.parts.now a.joints.now a.count)
            (take (a.e + a.count) a.slots.now) (take (a.e + a.count) (wide a.low.now a.high.now)),
        c.requires.high_len_bound,
        c.put_front-a1.ensures.next_is,
      ),
    )

pub returns : goal.returns
returns c =
    let a = c.args in
    report-put a.n a.e a.verdict (steps_in a.lines a.e a.sizes.now a.start.now a.parts.now a.joints.now a.count)
    (take (a.e + a.count) a.slots.now) (take (a.e + a.count) (wide a.low.now a.high.now)) a.out.now
    c.put_front-a1.ensures c.put_clusters.ensures
