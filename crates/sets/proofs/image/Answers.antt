-- `sets::image` meets its contract: the loop keeps `Imaged`. Assumes nothing.
use Rattle.std.specs.Prelude.{◌<◌, ◌≡◌}
use Rattle.theory.specs.Prelude.{arith, rules, count_trailing_zeros}
use Rattle.sets.specs.Each.Laws.{each-lowest}
use Rattle.sets.specs.Image.Laws.{imaged-none, imaged-next, imaged-all}
use Rattle.sets.proofs.image.Goals as goal

pub loop-p-init : goal.loop-p-init
loop-p-init c =
    let begins : c.into_iter-p-iterator.result.rest ≡ c.args.set = cc in
    record { can_next = tt; is_finite = tt; imaged = rw begins (imaged-none (search rules)) }

pub bounds-table-p : goal.bounds-table-p
bounds-table-p c =
    let lowest : count_trailing_zeros 64 c.loop-p.p-iterator.rest < 64 = each-lowest c.loop-p.invariant.imaged.each c.in-Some.ensures.steps.0 in
    omega (arith, lowest, c.in-Some.ensures.steps.1)

pub loop-p-preserved : goal.loop-p-preserved
loop-p-preserved c = record {
  can_next = tt;
  is_finite = tt;
  imaged = rw (c.in-Some.ensures.steps.1, c.in-Some.ensures.steps.2) (imaged-next c.loop-p.invariant.imaged c.in-Some.ensures.steps.0);
}

pub returns : goal.returns
returns c = imaged-all c.loop-p.invariant.imaged c.in-None.ensures.steps.0
