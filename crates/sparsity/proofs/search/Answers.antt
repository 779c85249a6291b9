-- `search` meets its contract. The loop's invariant: the constraints before c use freedoms and are not over. Assumes nothing.
use Rattle.theory.specs.Prelude.{refl, sym, ap, subst, List, [], ℕ, add-one, arith, take, get_or, take_all}
use Rattle.theory.specs.Constraints.{NotOver}
use Rattle.theory.specs.Near.Laws.{standing-count, standing-item}
use Rattle.peeling.specs.Hard.{Noted}
use Rattle.peeling.specs.Hard.Laws.{two_pos, in_list, told_in, told-out}
use Rattle.sparsity.specs.Freedoms.Sums.{same-le}
use Rattle.sparsity.specs.Answer.{Ready}
use Rattle.sparsity.specs.Answer.Laws.{free-using, two_ends, ends_at, using-skip, ready-now, ready-gathered, ready-some, using-next, first-at}
use Rattle.sparsity.specs.Answer.Laws.{answer-not, answer-first, told-none, told-set}
use Rattle.sparsity.proofs.search.Goals as goal
use Rattle.sparsity.proofs.search.Goals.{then-free_of-need+else-over-ne0, else-free_of-need}

pub loop-c-init : goal.loop-c-init
loop-c-init c = free-using c.args.core c.all_free-own.result c.requires.1.small c.all_free-own.ensures

-- one that does not lie within core is passed over
pub loop-c-preserved-then-pair-core : goal.loop-c-preserved-then-pair-core
loop-c-preserved-then-pair-core c = let l = c.loop-c in let below = c.loop-c-test.true in
    rw add-one (using-skip c.requires.1 l.c (in_list c.requires.0 below) (told-out (standing-item c.requires.0 l.c below) c.if-pair-core.true) l.invariant)

pub lowest-a-requires : goal.lowest-a-requires
lowest-a-requires c = two_pos _ (two_ends c.requires.0 c.loop-c-test.true refl)

pub other_end-b-requires : goal.other_end-b-requires
other_end-b-requires c = (two_ends c.requires.0 c.loop-c-test.true refl, c.lowest-a.ensures.0, c.lowest-a.ensures.1)

pub overflow_add-free_of : goal.overflow_add-free_of
overflow_add-free_of c = omega (arith, same-le)

pub gather-own-requires : goal.gather-own-requires
gather-own-requires c = let b = c.other_end-b.ensures in (c.loop-c.invariant.table, c.lowest-a.ensures.0, b.0, b.2)

pub returns-then-over-ne0 : goal.returns-then-over-ne0
returns-then-over-ne0 c = λ n below-n.
    let s = c.requires.0 in
    let l = c.loop-c in
    let below = c.loop-c-test.true in
    let a = c.lowest-a.ensures in
    let i = told_in (standing-item s l.c below) c.if-pair-core.false in
    let noted = subst (Noted (take c.args.e c.args.start.now) l.c 1) (sym c.from-need.ensures) (c.requires.2 l.c below) in
    answer-first s.simple n below-n
    (first-at c.requires.1 l.c (in_list s below) (ends_at s below refl (a.0, a.1) c.other_end-b.ensures) i l.invariant noted
    (rw (told-set {t = c.gather-own.result} c.if-over-ne0.true) at c.gather-own.ensures))

pub loop-c-preserved : goal.loop-c-preserved
loop-c-preserved c =
    let s = c.requires.0 in
    let l = c.loop-c in
    let below = c.loop-c-test.true in
    let listed = in_list s below in
    let cs = take c.args.e c.args.start.now in
    let a = c.lowest-a in
    let b = c.other_end-b in
    let need = c.from-need.result in
    let pair = ends_at s below refl (a.ensures.0, a.ensures.1) b.ensures in
    let i = told_in (standing-item s l.c below) c.if-pair-core.false in
    let noted = subst (Noted cs l.c 1) (sym c.from-need.ensures) (c.requires.2 l.c below) in
    let v = c.if-free_of-need in
    let ready : Ready (take l.c cs) c.args.core need a.result b.result v.own =
    elim v.branch [
      | then-free_of-need+else-over-ne0 o ↦ rw o.own-is
          (ready-gathered c.requires.1 l.c listed pair i l.invariant (rw (told-none {t = o.gather-own.result} o.if-over-ne0.false) at o.gather-own.ensures))
      | else-free_of-need o ↦ rw o.own-is
          (ready-now l.invariant c.from.ensures c.from-in-loop-c.ensures c.free_of.ensures c.free_of-in-loop-c.ensures
          (omega (arith, o.if-free_of-need.false)))
    ] in
    let row : ℕ → List ℕ = λ x. get_or v.own x [] in
    let p = c.place-spot.ensures.0 v.own (ap row (sym c.from-in-loop-c-2.ensures)) (ap row (sym c.from-in-loop-c-3.ensures)) (ready-some noted ready) in
    rw add-one (using-next c.requires.1 l.c listed pair i ready noted p)

pub returns : goal.returns
returns c = λ n below-n.
    let s = c.requires.0 in
    let l = c.loop-c in
    answer-not s.simple n below-n
    (subst NotOver (take_all l.c (take c.args.e c.args.start.now) (omega (arith, standing-count s, c.loop-c-test.false))) l.invariant.fine)
