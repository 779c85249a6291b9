-- `writer::put_front` meets its contract: one piece after another. Assumes nothing.
use Rattle.std.specs.Prelude.{◌-◌, ◌≤◌, ◌≡◌}
use Rattle.theory.specs.Prelude.{min, arith, ap, ◌∙◌, length, length-append, append_assoc}
use Rattle.sheet.specs.Field.{digits, kind_bytes}
use Rattle.sheet.specs.Field.Laws.{length_digits, opening-length}
use Rattle.writer.specs.Spread.{kinds_in_eight}
use Rattle.space.specs.Space.Laws.{put_as, ◌then◌}
use Rattle.writer.proofs.Spread.{few_bytes, spread-digits}
use Rattle.writer.proofs.put_front.Goals as goal

pub put_radii-requires : goal.put_radii-requires
put_radii-requires c =
    let o = c.args.o in
    let n = length c.args.elements.now in
    let m = min n (kinds_in_eight o) in
    let opening : length c.opening_bytes.result ≡ 4 = ap length c.opening_bytes.ensures ∙ opening-length o in
    let long = length-append (digits (kind_bytes o m) c.args.kinds.low) (digits (kind_bytes o (n - m)) c.args.kinds.high) in
    let few : c.put_kinds-at.result ≤ 21 = omega (
      arith,
      opening,
      c.put_text-at.ensures.next_is,
      c.put_item-at.ensures.next_is,
      c.put_kinds-at.ensures.next_is,
      long,
      length_digits (kind_bytes o m) c.args.kinds.low,
      length_digits (kind_bytes o (n - m)) c.args.kinds.high,
      few_bytes o n c.requires.0,
    ) in
    (omega arith, c.requires.0, c.requires.1)

pub returns : goal.returns
returns c =
    let spread = c.requires.2 in
    put_as (rw (spread.low_is, spread.high_is, spread-digits c.args.o c.args.elements.now c.requires.1) (simp append_assoc))
    (put_as c.opening_bytes.ensures c.put_text-at.ensures then c.put_item-at.ensures then c.put_kinds-at.ensures then c.put_radii.ensures)
