-- `search::todo_all` meets its contract: word after word. Assumes nothing.
use Rattle.theory.specs.Prelude.{ap, ◌∙◌, ℕ, min, arith}
use Rattle.theory.specs.Set.{full}
use Rattle.search.proofs.Starting.{todo-words}
use Rattle.search.proofs.Storing.{placed-next}
use Rattle.search.proofs.todo_all.Goals as goal

pub loop-w-preserved : goal.loop-w-preserved
loop-w-preserved c = placed-next c.loop-w.invariant (λ v l e. omega arith) (omega arith)
    (λ old. c.below.ensures ∙ ap (λ (x : ℕ). full (min x 64)) c.saturating_sub.ensures)

pub returns : goal.returns
returns c = (todo-words c.requires c.loop-w.invariant c.loop-w-test.false, c.loop-w.invariant.long)
