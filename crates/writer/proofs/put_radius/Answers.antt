-- `writer::put_radius` meets its contract. Assumes nothing.
use Rattle.theory.specs.Prelude.{ap, ◌∙◌, arith}
use Rattle.sheet.specs.Encode.{radius_bytes}
use Rattle.space.specs.Space.Laws.{put_as}
use Rattle.writer.proofs.Bytes.{low-bytes}
use Rattle.writer.proofs.put_radius.Goals as goal

pub returns-in-Circle : goal.returns-in-Circle
returns-in-Circle c =
    rw (ap radius_bytes c.in-Circle.is) (put_as (c.to_le_bytes.ensures ∙ low-bytes 4 4 c.in-Circle.r (omega arith)) c.put_text.ensures)
