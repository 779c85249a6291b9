-- Writing that a run over no space measures first: that run leaves the space, and says whether there is room. Assumes nothing.
use Rattle.std.specs.Prelude.{◌<◌, ◌≤◌, ◌≡◌, ◌++◌}
use Rattle.theory.specs.Prelude.{ℕ, zero-add, List, [], length}
use Rattle.space.specs.Written.{Done, Refused}
use Rattle.space.specs.Space.{Put, answer, after}
use Rattle.space.specs.Space.Laws.{none_left, put_refused, put-done}

module _ {items none : List ℕ} {needed : ℕ} (space : List ℕ) (p : Put [] 0 items needed none) where
  pub measured-short : length (none ++ space) < needed → (Refused 17 ≡ answer items space) × (none ++ space ≡ after items space)
  measured-short short = rw (none_left p) (put_refused items space (rw (none_left p, p.next_is, zero-add) at short))

  pub measured : {out left : List ℕ} {next : ℕ} → out ≡ none ++ space → needed ≤ length (none ++ space) → Put out 0 items next left
      → (Done next ≡ answer items space) × (left ≡ after items space)
  measured same room q =
      put-done (rw (none_left p, p.next_is, zero-add) at room) (rw (same, none_left p) at q)
