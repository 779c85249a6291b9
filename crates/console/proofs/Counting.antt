-- `Counts` from its bound. Assumes nothing.
use Prim.Native.Nat.{ℕ, ◌≤◌}
use mathlib.Core.Path.{sym}
use mathlib.Core.List.{List}
use lib.ListN.{length}
use lib.Seq.{length-take-le}
use Rattle.io.specs.Counts.{IsPrefixLen}

pub counts : (i : ℕ) (list : List ℕ) → i ≤ length list → IsPrefixLen i list
counts i list h = (h, sym (length-take-le i list h))
