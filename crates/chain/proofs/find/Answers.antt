-- `chain::find` meets its contract: none, or the way over as many layers as were found. Assumes nothing.
use Rattle.theory.specs.Prelude.{refl}
use Rattle.chain.specs.Layers.Laws.{far-distance}
use Rattle.chain.specs.Answer.Laws.{answered-none, answered-short, answered-run}
use Rattle.chain.proofs.find.Goals as goal

pub returns-in_default : goal.returns-in_default
returns-in_default c = answered-none c.args.s.now c.args.from c.args.to refl c.args.out.now c.in_default.ensures

pub returns-then-out-t : goal.returns-then-out-t
returns-then-out-t c = let a = c.args in
    let (is, low, held) = c.in-Some.ensures in
    answered-short a.s.now a.from a.to is a.out.now low c.if-out-t.true

pub put_way-requires : goal.put_way-requires
put_way-requires c = let a = c.args in
    let (is, low, held) = c.in-Some.ensures in
    record {
      clusters = c.requires.0;
      element = c.requires.1;
      low = low;
      held = held;
      far = far-distance a.s.now a.to a.from is low;
      room = c.if-out-t.false;
    }

pub returns : goal.returns
returns c = let a = c.args in
    let (is, low, held) = c.in-Some.ensures in
    answered-run a.s.now a.from a.to is a.out.now low c.if-out-t.false c.put_way.ensures
