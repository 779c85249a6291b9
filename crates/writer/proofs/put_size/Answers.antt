-- `writer::put_size` meets its contract. Assumes nothing.
use Rattle.theory.specs.Prelude.{ap, ◌∙◌, rules}
use Rattle.sheet.specs.Encode.{size_bytes}
use Rattle.space.specs.Space.Laws.{put_as, put-none}
use Rattle.writer.proofs.Bytes.{signed-bytes}
use Rattle.writer.proofs.put_size.Goals as goal

pub returns-in-Given : goal.returns-in-Given
unfolding size_bytes
returns-in-Given c =
    rw (ap size_bytes c.in-Given.is) (put_as (c.to_le_bytes.ensures ∙ signed-bytes c.in-Given.z (search rules)) c.put_text.ensures)

pub returns-in-Missing : goal.returns-in-Missing
unfolding size_bytes
returns-in-Missing c = put_as (search rules) (put-none _ _)
