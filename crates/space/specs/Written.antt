-- The answer to a call that writes: the count of items written, or the number of the rule that refuses (document 01, "Refused": a refusal gives its
-- number alone). Assumes nothing.
use Rattle.std.specs.Prelude.{ℕ, Result}
pub use Rattle.std.specs.Prelude.{Ok as Done, Err as Refused}

abbrev pub Written : Type 0
Written = Result ℕ ℕ
