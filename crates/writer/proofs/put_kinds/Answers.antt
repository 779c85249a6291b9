-- `writer::put_kinds` meets its contract: one number after the other. Assumes nothing.
use Rattle.std.specs.Prelude.{◌≤◌}
use Rattle.theory.specs.Prelude.{arith}
use Rattle.sheet.specs.Field.Laws.{length_digits}
use Rattle.space.specs.Space.Laws.{put_as, ◌then◌}
use Rattle.writer.proofs.Spread.{few_bytes}
use Rattle.writer.proofs.put_kinds.Goals as goal

pub put_number-next-requires : goal.put_number-next-requires
put_number-next-requires c =
    let few : c.kind_bytes.result ≤ 8 =
    rw (c.kind_bytes.ensures, c.min-split.ensures, c.kinds_in_eight.ensures) (few_bytes c.args.o c.args.n c.requires.1).0 in
    (omega arith, few)

pub put_number-requires : goal.put_number-requires
put_number-requires c =
    let few : c.kind_bytes.result ≤ 8 =
    rw (c.kind_bytes.ensures, c.min-split.ensures, c.kinds_in_eight.ensures) (few_bytes c.args.o c.args.n c.requires.1).0 in
    let few-more : c.kind_bytes-2.result ≤ 8 =
    rw (c.kind_bytes-2.ensures, c.min-split.ensures, c.kinds_in_eight.ensures) (few_bytes c.args.o c.args.n c.requires.1).1 in
    (omega (arith, c.put_number-next.ensures.next_is, length_digits c.kind_bytes.result c.args.kinds.low), few-more)

pub returns : goal.returns
returns c =
    put_as (rw (c.kind_bytes.ensures, c.kind_bytes-2.ensures, c.min-split.ensures, c.kinds_in_eight.ensures))
    (c.put_number-next.ensures then c.put_number.ensures)
