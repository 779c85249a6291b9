-- `writer::put_number` meets its contract. Assumes nothing.
use Rattle.theory.specs.Prelude.{ap, take, ◌∙◌}
use Rattle.space.specs.Space.Laws.{put_as}
use Rattle.writer.proofs.Bytes.{low-bytes}
use Rattle.writer.proofs.put_number.Goals as goal

pub returns : goal.returns
returns c = put_as (ap (take c.args.k) c.to_le_bytes.ensures ∙ low-bytes c.args.k 8 c.args.u c.requires.1) c.put_text.ensures
