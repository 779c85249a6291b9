-- What each turn of the loops keeps. Document 02, 2026-03. Assumes nothing.
use Rattle.std.specs.Prelude.{◌≡◌, ◌≤◌}
use Rattle.theory.specs.Prelude.{List, ℕ, length, drop}
use Rattle.theory.specs.Ring.{once, strip}
pub mod Laws

-- the clusters from i on were looked at
pub record Swept (l : ℕ) (s : List ℕ) (i some two : ℕ) : Type 0 where
  pub within : i ≤ length s
  pub some_is : some ≡ once l (drop i s)
  pub two_is : two ≡ strip l (drop i s)
