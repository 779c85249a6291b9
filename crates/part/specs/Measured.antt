-- The answer to a call that measures: the tally, or the number of the rule that refuses. Assumes nothing.
use Rattle.std.specs.Prelude.{ℕ, Result}
use Rattle.part.specs.declared.Tally.{Tally}
pub use Rattle.std.specs.Prelude.{Ok as Is, Err as Refused}

abbrev pub Measured : Type 0
Measured = Result Tally ℕ
