-- `report::write_over_report` meets its contract: the buffer has room for every such report. Assumes nothing.
use Rattle.theory.specs.Prelude.{ℕ, arith, replicate, length-replicate}
use Rattle.report.specs.Report.{over_report}
use Rattle.report.specs.Block.{block}
use Rattle.report.specs.Block.Buffered.{buffered}
use Rattle.report.proofs.write_over_report.Goals as goal

pub returns : goal.returns
returns c =
    let put = c.put_over_report-end.ensures in
    let a = c.args in
    let done =
    buffered {items = over_report a.n a.e a.first a.set} {buffer = replicate block 0}
    (omega (arith, put.0.next_is, put.1, length-replicate {A = ℕ} block 0)) put.0 a.out.now
    (c.put_all.ensures.answers, c.put_all.ensures.leaves) in
    record { answers = done.0; leaves = done.1 }
