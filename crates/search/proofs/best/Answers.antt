-- `search::best` meets its contract: the loop keeps `Leading`. Assumes nothing.
use Rattle.std.specs.Prelude.{◌≡◌, ◌-◌}
use Rattle.theory.specs.Prelude.{◌∙◌, min, arith, rules, bit_and}
use Rattle.theory.specs.Set.{◌∩◌}
use Rattle.search.proofs.Two.{leading-none, leading-next, leading-best}
use Rattle.search.proofs.best.Goals as goal

pub loop-z-init : goal.loop-z-init
unfolding ◌∩◌
loop-z-init c =
    let begins : c.into_iter-z-iterator.result.rest ≡ bit_and c.args.o (c.args.o - 1) = cc in
    let least : min 65535 c.joined-best.result ≡ c.joined-best.result = omega (arith, c.joined-best.ensures.1) in
    let key = c.joined-best.ensures in
    let first = leading-next (leading-none (search rules)) c.requires (c.from.ensures ∙ c.lowest.ensures.2) key.0 key.1 in
    record { can_next = tt; is_finite = tt; leading = rw (begins, ← least) first }

pub loop-z-preserved : goal.loop-z-preserved
loop-z-preserved c =
    let step = c.in-Some.ensures.steps in
    record {
      can_next = tt;
      is_finite = tt;
      leading = rw (step.2, c.min-best.ensures) (leading-next c.loop-z.invariant.leading step.0 step.1 c.joined.ensures.0 c.joined.ensures.1);
    }

pub returns : goal.returns
returns c =
    let l = c.loop-z.invariant.leading in
    (leading-best l c.in-None.ensures.steps.0 c.requires, l.small)
