-- `peel` meets its contract. The loop's invariant: the elements of the work list are light among those left, and the others not; real is peeled down
-- to what is left. Assumes nothing.
use Rattle.std.specs.Prelude.{◌-◌}
use Rattle.theory.specs.Prelude.{refl, ones, arith, rules}
use Rattle.theory.specs.Set.{◌∩◌}
use Rattle.theory.specs.Set.Laws.{a∩b⊑b}
use Rattle.sets.specs.Image.Laws.{image-sub}
use Rattle.peeling.specs.Core.Peeling.{heavy-none, light-room, round}
use Rattle.peeling.specs.Hard.Laws.{shown-less}
use Rattle.peeling.proofs.peel.Goals as goal

pub loop-todo-init : goal.loop-todo-init
loop-todo-init c = record { light = c.requires; peeled = λ real s p. (p, s); heavy = λ m h. h }

pub overflow_sub-left : goal.overflow_sub-left
overflow_sub-left c = light-room c.loop-todo.invariant.light

pub light_of-todo-requires : goal.light_of-todo-requires
unfolding ◌∩◌
light_of-todo-requires c = let l = c.loop-todo in a∩b⊑b c.image.result (l.left - l.todo)

pub loop-todo-smaller : goal.loop-todo-smaller
loop-todo-smaller c = omega (arith, c.loop-todo-test.true, light-room c.loop-todo.invariant.light)

pub loop-todo-preserved : goal.loop-todo-preserved
loop-todo-preserved c =
    let l = c.loop-todo in
    let w = l.invariant in
    record {
      light = c.light_of-todo.ensures.0;
      peeled = λ real s p. shown-less (ones l.todo) l.left l.todo refl w.light (w.peeled real s p);
      heavy = λ m h. round c.args.near.now m c.image.result (search rules) w.light (image-sub c.image.ensures) (w.heavy m h) c.light_of-todo.ensures.1;
    }

pub returns : goal.returns
returns c =
    let w = c.loop-todo.invariant in
    (w.peeled, λ m h. heavy-none (omega (arith, c.loop-todo-test.false)) (w.heavy m h))
