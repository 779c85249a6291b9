-- What is found of a list of constraints: not over, or the first constraint that makes it so and the smallest set. Assumes nothing.
use Rattle.std.specs.Prelude.{ℕ, Option, None, Some}
use Rattle.theory.specs.declared.Excess.{Excess}

pub data Finding : Type 0 where
  Fine : Finding
  First : ℕ → ℕ → Finding

-- as it is answered
abbrev pub found : Option Excess → Finding
found None = Fine
found (Some x) = First x.constraint x.set
