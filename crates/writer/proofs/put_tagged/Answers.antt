-- `writer::put_tagged` meets its contract: three pieces, one after the other. Assumes nothing.
use Rattle.std.specs.Prelude.{◌+◌}
use Rattle.theory.specs.Prelude.{arith, append_assoc}
use Rattle.space.specs.Space.Laws.{put_as, ◌then◌}
use Rattle.writer.proofs.Untagged.{cut-least}
use Rattle.writer.proofs.put_tagged.Goals as goal

pub returns : goal.returns
returns c =
    put_as (rw (c.min-last.ensures, cut-least c.args.s.now (c.args.at + 3) c.args.size (omega (arith, c.requires.2)), append_assoc))
    (c.put_text-to.ensures then c.put_item-to.ensures then c.put_text.ensures)
