-- `light_of` meets its contract: the loop keeps `Tried`. Assumes nothing.
use Rattle.std.specs.Prelude.{◌≡◌, ◌<◌}
use Rattle.theory.specs.Prelude.{◌∙◌, ap, arith, rules, one-mul, lt-suc_self, shl_exact, bit_or}
use Rattle.theory.specs.Set.{◌∩◌, ◌∪◌}
use Rattle.sets.specs.Each.Laws.{each-lowest}
use Rattle.peeling.specs.Core.Neighbours.{two-most, three-least, tried-none, tried-light, tried-heavy, tried-all}
use Rattle.peeling.proofs.light_of.Goals as goal
use Rattle.peeling.proofs.light_of.Goals.{In-Some}

pub loop-x-init : goal.loop-x-init
loop-x-init c =
    let begins : c.into_iter-x-iterator.result.rest ≡ c.args.who = cc in
    record { can_next = tt; is_finite = tt; tried = rw begins (tried-none c.args.near.now c.args.left (search rules)) }

low : (c : In-Some) → c.in-Some.x < 64
low c = omega (arith, each-lowest c.loop-x.invariant.tried.each c.in-Some.ensures.steps.0, c.in-Some.ensures.steps.1)

pub bounds-near-x : goal.bounds-near-x
bounds-near-x c = low (goal.at.bounds-near-x c).In-Some

pub overflow_shl-light : goal.overflow_shl-light
overflow_shl-light c = low (goal.at.overflow_shl-light c).In-Some

pub loop-x-preserved-then-without_lowest-eq0 : goal.loop-x-preserved-then-without_lowest-eq0
unfolding ◌∩◌ ◌∪◌
loop-x-preserved-then-without_lowest-eq0 c =
    let s = c.in-Some.ensures.steps in
    let l = c.loop-x in
    let small : c.in-Some.x < 64 = omega (arith, each-lowest l.invariant.tried.each s.0, s.1) in
    record {
      can_next = tt;
      is_finite = tt;
      tried = tried-light c.requires l.invariant.tried s.0 s.1 s.2
          (ap (bit_or l.light) (shl_exact 1 c.in-Some.x 64 (lt-suc_self 1) (omega arith) ∙ one-mul _))
          (two-most _ c.without_lowest.ensures c.without_lowest-in-loop-x.ensures c.if-without_lowest-eq0.true);
    }

pub loop-x-preserved : goal.loop-x-preserved
unfolding ◌∩◌
loop-x-preserved c =
    let s = c.in-Some.ensures.steps in
    record {
      can_next = tt;
      is_finite = tt;
      tried = tried-heavy c.requires c.loop-x.invariant.tried s.0 s.1 s.2
          (three-least _ c.without_lowest.ensures c.without_lowest-in-loop-x.ensures c.if-without_lowest-eq0.false);
    }

pub returns : goal.returns
returns c = tried-all c.loop-x.invariant.tried c.in-None.ensures.steps.0
