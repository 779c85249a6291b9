-- `reader::read_dimension` meets its contract: the map, and then what follows it. Assumes nothing.
use Rattle.sheet.specs.Facts.{kind_at}
use Rattle.sheet.specs.Facts.Laws.{kind-in}
use Rattle.reader.proofs.Dimension.{dimension-is}
use Rattle.reader.proofs.read_dimension.Goals as goal

pub returns-in_default : goal.returns-in_default
returns-in_default c es h =
    rw (dimension-is (kind_at es c.args.a) (kind_at es c.args.b) _, ← c.read_byte-third.ensures, c.unwrap_err.ensures)

pub returns : goal.returns
returns c es h =
    rw (
      dimension-is (kind_at es c.args.a) (kind_at es c.args.b) _,
      ← c.in-Ok.ensures,
      ← kind-in h c.args.a,
      ← kind-in h c.args.b,
      ← c.kind_at-j.ensures,
      ← c.kind_at-k.ensures,
    ) c.read_by.ensures
