-- `writer::put_whole` meets its contract: a run over no space that measures, unless there is space for all, then the run that writes.
-- Assumes nothing.
use Rattle.theory.specs.Prelude.{le_trans}
use Rattle.space.specs.Space.Laws.{put-done}
use Rattle.writer.proofs.Measured.{measured-short, measured}
use Rattle.writer.proofs.put_whole.Goals as goal
use Rattle.writer.proofs.put_whole.Goals.{then-out-most+else-out-needed, else-out-most}

pub returns-then-out-needed : goal.returns-then-out-needed
returns-then-out-needed g c = λ items within puts. measured-short _ (puts _ _ _ c.put-needed.ensures) c.if-out-needed.true

pub returns : goal.returns
returns g c = λ items within puts.
    elim c.if-out-most.branch [
      | then-out-most+else-out-needed w ↦ measured _ (puts _ _ _ w.put-needed.ensures) w.out-is w.if-out-needed.false (puts _ _ _ c.put.ensures)
      | else-out-most w ↦ put-done (le_trans within w.if-out-most.false) (rw w.out-is at (puts _ _ _ c.put.ensures))
    ]
