-- `search::call_up` meets its contract: word after word, then element after element. Assumes nothing.
use Rattle.std.specs.Prelude.{◌≡◌, ◌+◌, ◌*◌}
use Rattle.theory.specs.Prelude.{ap, ◌∙◌, ℕ, arith, rules, bit_or, get_or}
use Rattle.theory.specs.Set.{◌∪◌, at}
use Rattle.theory.specs.Set.Laws.{∈-∪ˡ}
use Rattle.sets.specs.Each.Laws.{each_none, each_all}
use Rattle.sets.specs.Image.Laws.{joined-next}
use Rattle.search.specs.Words.{replaced_at}
use Rattle.search.proofs.Storing.{placed-none, placed-next}
use Rattle.search.proofs.call_up.Goals as goal

pub loop-w-init : goal.loop-w-init
loop-w-init c = placed-none

pub loop-w-preserved : goal.loop-w-preserved
loop-w-preserved c =
    rw c.without.ensures (
    placed-next c.loop-w.invariant (λ v l e. omega arith) (omega (arith, c.requires))
    (λ old. ap (replaced_at c.args.dead c.args.made c.loop-w.w) old)
    )

pub loop-z-init : goal.loop-z-init
loop-z-init c =
    let begins : c.into_iter-z-iterator.result.rest ≡ c.args.o = cc in
    record {
      can_next = tt;
      is_finite = tt;
      long = c.loop-w.invariant.long ∙ c.requires;
      kept = λ v x l e. e;
      passed = λ v l. rw begins (each_none (search rules));
    }

pub loop-w-2-init : goal.loop-w-2-init
loop-w-2-init c = placed-none

pub loop-w-2-preserved : goal.loop-w-2-preserved
loop-w-2-preserved c =
    placed-next c.loop-w-2.invariant (λ v l e. omega arith) (omega (arith, c.loop-z.invariant.long))
    (λ old. ap (λ (x : ℕ). bit_or x (get_or c.args.hold.now (64 * c.loop-w-2.w + c.in-Some.z) 0)) old)

pub loop-z-preserved : goal.loop-z-preserved
unfolding ◌∪◌
loop-z-preserved c =
    let step = c.in-Some.ensures.steps in
    let p = c.loop-w-2.invariant in
    record {
      can_next = tt;
      is_finite = tt;
      long = p.long ∙ c.loop-z.invariant.long;
      kept = λ v x l e. ap (at x) (p.done v (omega arith))
          ∙ ∈-∪ˡ x (get_or c.loop-z.todo v 0) (get_or c.args.hold.now (64 * v + c.in-Some.z) 0) (c.loop-z.invariant.kept v x l e);
      passed = λ v l. rw (p.done v (omega arith), step.1, step.2)
          (joined-next (λ z. get_or c.args.hold.now (64 * v + z) 0) (get_or c.loop-z.todo v 0) (c.loop-z.invariant.passed v l) step.0);
    }

pub returns : goal.returns
returns c =
    let l = c.loop-z.invariant in
    record {
      long = l.long;
      kept = λ w x s e. l.kept w x s (ap (at x) (c.loop-w.invariant.done w (omega arith)) ∙ e);
      called = λ w s. record { every = λ z x e i. each_all (l.passed w s) c.in-None.ensures.steps.0 z e x i };
    }
