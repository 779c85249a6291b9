-- `part::put_part` meets its contract: its parts have lower numbers, and their lines stand one after another. Assumes nothing.
use Rattle.theory.specs.Prelude.{arith, sym, ap}
use Rattle.theory.specs.declared.Step.{Step}
use Rattle.engine.specs.Steps.{step_from}
use Rattle.part.specs.Part.Laws.{part-initial}
use Rattle.part.specs.Tallies.Laws.{listed-none, listed-as}
use Rattle.part.proofs.Turn as turn
use Rattle.part.proofs.+put_part.Goals as goal

pub returns-then-c-e : goal.returns-then-c-e
returns-then-c-e t c = listed-as (sym (part-initial c.args.e _ c.args.c c.if-c-e.true)) (listed-none c.args.out.now c.args.t)

pub put_part-a-requires : goal.put_part-a-requires
put_part-a-requires t c =
    let b = c.requires.e_bound in
    let h = turn.made-of b.2 c.if-c-e.false c.step_at-s.ensures in (
      omega (arith, turn.i_below h, c.decreases),
      ((b.0, omega (arith, turn.i_below h, b.1), turn.i_lower h), (turn.i-room h c.requires.room, c.requires.numerals)),
    )

pub put_part-b-requires : goal.put_part-b-requires
put_part-b-requires t c =
    let b = c.requires.e_bound in
    let h = turn.made-of b.2 c.if-c-e.false c.step_at-s.ensures in (
      omega (arith, turn.j_below h, c.decreases),
      ((b.0, omega (arith, turn.j_below h, b.1), turn.j_lower h), (turn.j-room h c.requires.room c.put_part-a.ensures, c.requires.numerals)),
    )

pub put_part-d-requires : goal.put_part-d-requires
put_part-d-requires t c =
    let b = c.requires.e_bound in
    let h = turn.made-of b.2 c.if-c-e.false c.step_at-s.ensures in (
      omega (arith, turn.k_below h, c.decreases),
      ((b.0, omega (arith, turn.k_below h, b.1), turn.k_lower h), (turn.k-room h c.requires.room c.put_part-a.ensures c.put_part-b.ensures, c.requires.numerals)),
    )

-- its own step
pub put_steps_from-next-requires : goal.put_steps_from-next-requires
unfolding step_from
put_steps_from-next-requires t c =
    let b = c.requires.e_bound in
    let h = turn.made-of b.2 c.if-c-e.false c.step_at-s.ensures in
    let small = turn.small h (ap (λ (y : Step). y.made) c.step_at-s.ensures) b.0 b.1 in (
      c.requires.numerals,
      b.0,
      omega (arith, b.0, b.1, c.if-c-e.false),
      turn.own-small h small,
      (turn.own_room h c.requires.room c.put_part-a.ensures c.put_part-b.ensures c.put_part-d.ensures).bytes_fit,
    )

pub overflow_add-result : goal.overflow_add-result
overflow_add-result t c =
    let h = turn.made-of c.requires.e_bound.2 c.if-c-e.false c.step_at-s.ensures in
    omega (arith, turn.one_more h c.requires.room c.put_part-a.ensures c.put_part-b.ensures c.put_part-d.ensures)

pub returns : goal.returns
returns t c =
    let h = turn.made-of c.requires.e_bound.2 c.if-c-e.false c.step_at-s.ensures in
    turn.all_listed h c.requires.room c.put_part-a.ensures c.put_part-b.ensures c.put_part-d.ensures c.put_steps_from-next.ensures
