-- `writer::put_constraint` meets its contract: ends and bit map, then the size. Assumes nothing.
use Rattle.sheet.specs.Encode.{constraint_bytes}
use Rattle.space.specs.Space.Laws.{put_as, ◌then◌}
use Rattle.writer.proofs.put_constraint.Goals as goal

pub returns : goal.returns
unfolding constraint_bytes
returns c = put_as (rw c.map_of.ensures) (c.put_text-next.ensures then c.put_size.ensures)
