-- `account::put_pairs` meets its contract: the words of the living clusters passed are put. Assumes nothing.
use Rattle.std.specs.Prelude.{◌≡◌, ◌<◌}
use Rattle.theory.specs.Prelude.{rules, sym, ap, ◌∙◌, ℕ, arith, length, take}
use Rattle.space.specs.Space.Laws.{put-none, put_as, ◌then◌}
use Rattle.account.specs.Resting.Pairs.{pairs_in}
use Rattle.account.specs.Resting.Laws.{pairs_next}
use Rattle.account.proofs.put_pairs.Goals as goal

pub loop-c-init : goal.loop-c-init
unfolding pairs_in
loop-c-init c = (search rules, put-none _ 0)

pub loop-c-preserved : goal.loop-c-preserved
loop-c-preserved c = let l = c.loop-c in
    let r = c.requires in
    let put = c.put_pair-next.ensures in
    let h : l.c < length c.args.slots.now = omega arith in (
      omega (arith, l.invariant.0, put.1),
      put_as (sym (pairs_next _ _ _ l.c h (r.1 ∙ sym r.2) (r.1 ∙ sym r.3))) (l.invariant.1 then put.0),
    )

pub shape_of-out : goal.shape_of-out
shape_of-out c = c.loop-c.invariant.1.length_is

pub returns : goal.returns
returns c = let l = c.loop-c in
    let a = c.args in
    let all : l.c ≡ a.used = omega arith in
    put_as (ap (λ (n : ℕ). pairs_in (take n a.slots.now) (take n a.low.now) (take n a.high.now)) all) l.invariant.1
