-- `elements::read_radii` meets its contract: i elements are read, and their radii stand. Assumes nothing.
use Rattle.theory.specs.Prelude.{arith}
use Rattle.elements.specs.Round.Laws.{kinds-length}
use Rattle.elements.specs.Round.Elements.{partway-none, partway-more, partway-refused, partway_end}
use Rattle.elements.proofs.read_radii.Goals as goal

pub loop-i-init : goal.loop-i-init
loop-i-init c = partway-none _ _ _ _ c.told-radii

pub returns-in_default : goal.returns-in_default
returns-in_default c =
    let is = c.kind_of.ensures c.args.n c.loop-i-test.true c.requires.1 in
    rw c.in_default.is
    (partway-refused c.loop-i.invariant (omega (arith, kinds-length c.args.s.now c.args.at c.args.n)) is c.in_default.ensures)

pub loop-i-preserved : goal.loop-i-preserved
loop-i-preserved c =
    let is = c.kind_of.ensures c.args.n c.loop-i-test.true c.requires.1 in
    partway-more c.loop-i.invariant (omega (arith, kinds-length c.args.s.now c.args.at c.args.n)) is c.in-Ok.ensures

pub returns : goal.returns
returns c = (
  c.loop-i.invariant.es,
  partway_end c.loop-i.invariant (omega (arith, kinds-length c.args.s.now c.args.at c.args.n)),
  c.loop-i.invariant.stand,
)
