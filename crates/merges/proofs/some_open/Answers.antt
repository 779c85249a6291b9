-- `merges::some_open` meets its contract: every cluster waits, so the search is ready, and its hit is the first open merge. Assumes nothing.
use Rattle.std.specs.Prelude.{Option as Found, Some, None, ◌≡◌, is_some as is_found}
use Rattle.theory.specs.Prelude.{refl, ap, ◌∙◌}
use Rattle.theory.specs.Merge.{final}
use Rattle.theory.specs.Plan.{is_some}
use Rattle.merges.specs.Going.Laws.{slots_same}
use Rattle.merges.specs.Search.{hit_of}
use Rattle.merges.specs.declared.Hit.{Hit}
use Rattle.merges.proofs.Finding.{first-of-same}
use Rattle.merges.proofs.Running.{ready-begun}
use Rattle.merges.proofs.some_open.Goals as goal

some-hit : (h : Found Hit) → is_found h ≡ is_some (hit_of h)
some-hit (Some h) = refl
some-hit None = refl

pub returns : goal.returns
returns c cs p fine w =
    let ready = ready-begun fine w c.join_all.ensures c.todo_all-todo.ensures.0 in
    c.is_some.ensures ∙ some-hit c.first_open.result
    ∙ ap is_some (c.first_open.ensures.first ready ∙ first-of-same _ (final cs p) (slots_same w))
