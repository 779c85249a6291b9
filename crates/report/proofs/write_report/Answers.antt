-- `report::write_report` meets its contract: the buffer has room for the report. Assumes nothing.
use Rattle.std.specs.Prelude.{◌+◌}
use Rattle.theory.specs.Prelude.{arith, ℕ, List, take, replicate, length-replicate}
use Rattle.engine.specs.Steps.{steps_in}
use Rattle.report.specs.Report.{report}
use Rattle.report.specs.Pieces.{wide}
use Rattle.report.specs.Block.{block}
use Rattle.report.specs.Block.Buffered.{buffered}
use Rattle.report.proofs.write_report.Goals as goal

pub put_report-length-requires : goal.put_report-length-requires
put_report-length-requires c = record {
  numerals = c.numerals-text.ensures;
  n_bound = c.requires.n_bound;
  high_len_bound = c.requires.high_len_bound;
}

pub returns : goal.returns
returns c =
    let a = c.args in
    let items : List ℕ =
    report a.n a.e a.verdict (steps_in a.lines a.e a.sizes.now a.start.now a.parts.now a.joints.now a.count)
    (take (a.e + a.count) a.slots.now) (take (a.e + a.count) (wide a.low.now a.high.now)) in
    let done =
    buffered {items = items} {buffer = replicate block 0} (omega (arith, c.requires.high_len_bound, length-replicate {A = ℕ} block 0))
    c.put_report-length.ensures a.out.now (c.put_all.ensures.answers, c.put_all.ensures.leaves) in
    record { answers = done.0; leaves = done.1 }
