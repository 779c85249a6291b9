-- `writer::put_radii` meets its contract. The loop's invariant: the radii of the elements passed are put. Assumes nothing.
use Rattle.std.specs.Prelude.{◌≡◌}
use Rattle.theory.specs.Prelude.{arith, sym, length, take, length-take-le, take_all}
use Rattle.sheet.specs.Encode.{radii_bytes}
use Rattle.sheet.specs.Encode.Laws.{radii-most}
use Rattle.sheet.specs.Facts.{blank_element}
use Rattle.space.specs.Space.Laws.{put_as, put-none, ◌then◌}
use Rattle.writer.proofs.Spread.{no-radii, radii-more}
use Rattle.writer.proofs.put_radii.Goals as goal

pub returns-in-Pf01 : goal.returns-in-Pf01
returns-in-Pf01 c = put_as (sym (no-radii _ (rw c.in-Pf01.is at c.requires.2))) (put-none _ _)

pub loop-x-init : goal.loop-x-init
unfolding radii_bytes
loop-x-init c = put-none _ _

pub put_radius-next-requires : goal.put_radius-next-requires
put_radius-next-requires c =
    let a = c.loop-x in
    let all = c.args.elements.now in
    let short : length (take a.x-index all) ≡ a.x-index = length-take-le a.x-index all (omega arith) in
    omega (arith, a.invariant.next_is, radii-most (take a.x-index all) (omega (arith, c.requires.1)), c.requires.0)

pub loop-x-preserved : goal.loop-x-preserved
loop-x-preserved c =
    let a = c.loop-x in
    put_as (sym (radii-more c.args.elements.now a.x-index blank_element (omega arith))) (a.invariant then c.put_radius-next.ensures)

pub shape_of-out : goal.shape_of-out
shape_of-out c = c.loop-x.invariant.length_is

pub returns : goal.returns
returns c = rw (take_all c.loop-x.x-index c.args.elements.now c.loop-x-test.false) at c.loop-x.invariant
