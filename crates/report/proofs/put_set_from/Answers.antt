-- `report::put_set_from` meets its contract: the elements of the set to come are still to be put. Assumes nothing.
use Rattle.std.specs.Prelude.{◌≡◌, ◌-◌}
use Rattle.theory.specs.Prelude.{rules, ℕ, arith, ap, ◌∙◌, and_le_l, trailing_le}
use Rattle.report.specs.Elements.{elements}
use Rattle.report.specs.Pieces.{numbers, above}
use Rattle.report.specs.Report.Laws.{above-lowest, above-none}
use Rattle.report.specs.Report.Length.{above_most}
use Rattle.report.proofs.Standing.{stands}
use Rattle.report.specs.Going.Laws.{start, put_next, put_last, place}
use Rattle.report.proofs.put_set_from.Goals as goal

pub loop-x-init : goal.loop-x-init
loop-x-init c =
    let begins : c.into_iter-x-iterator.result.rest ≡ c.args.set = cc in
    record { can_next = tt; is_finite = tt; fits = rw begins (search rules); going = rw begins (start _) }

pub put_number-next-requires : goal.put_number-next-requires
put_number-next-requires c =
    let l = c.loop-x in (
      c.requires.0,
      omega (arith, trailing_le 64 l.x-iterator.rest, c.in-Some.ensures.steps.1, c.requires.1),
      omega (arith, place stands l.invariant.going, above_most c.args.first c.args.set, c.requires.2),
    )

pub loop-x-preserved : goal.loop-x-preserved
loop-x-preserved c =
    let l = c.loop-x in
    let steps = c.in-Some.ensures.steps in record {
      can_next = tt;
      is_finite = tt;
      fits = omega (arith, and_le_l l.x-iterator.rest (l.x-iterator.rest - 1), steps.2, l.invariant.fits);
      going = rw steps.2 (put_next stands (above-lowest _ l.x-iterator.rest l.invariant.fits steps.0) l.invariant.going
          (rw steps.1 at c.put_number-next.ensures.0));
    }

pub returns : goal.returns
returns c =
    let a = c.args in
    let put = put_last stands (ap (λ (x : ℕ). numbers (above a.first (elements x))) c.in-None.ensures.steps.0 ∙ above-none a.first) c.loop-x.invariant.going in
    (put, omega (arith, put.next_is, above_most a.first a.set))
