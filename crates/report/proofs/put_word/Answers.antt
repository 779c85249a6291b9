-- `report::put_word` meets its contract: the bytes from `i` on are still to be put. Assumes nothing.
use Rattle.std.specs.Prelude.{◌∷◌, ◌+◌, ◌≡◌}
use Rattle.theory.specs.Prelude.{add-zero, add-one, arith, refl, ◌∙◌, [], length, get_or, drop_of_length-le, drop-cons}
use Rattle.report.specs.Block.Laws.{stands-all}
use Rattle.report.proofs.Standing.{stands}
use Rattle.report.specs.Going.Laws.{start, put_next, put_last}
use Rattle.report.proofs.put_word.Goals as goal

pub loop-i-init : goal.loop-i-init
loop-i-init c = rw add-zero (start _)

pub loop-i-preserved : goal.loop-i-preserved
loop-i-preserved c = let word = c.args.word.now in
    let l = c.loop-i in
    put_next stands {ys = get_or word l.i 0 ∷ []} (drop-cons word l.i 0 c.loop-i-test.true ∙ rw add-one) l.invariant (stands-all (omega arith) refl)

pub returns : goal.returns
returns c =
    let end : c.args.at + c.loop-i.i ≡ c.args.at + length c.args.word.now = omega arith in
    rw end at (put_last stands (drop_of_length-le c.args.word.now c.loop-i-test.false) c.loop-i.invariant)
