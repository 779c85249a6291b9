-- `search::todo_all` meets its contract: word after word. Assumes nothing.
use Rattle.search.proofs.Starting.{first_word}
use Rattle.search.proofs.Storing.{Placed}
use Rattle.search.proofs.todo_all.Given as goal

abbrev pub invariant-loop-w : goal.invariant-loop-w
invariant-loop-w l = Placed (λ v. v) (first_word l.e) l.initial.todo l.todo l.w
