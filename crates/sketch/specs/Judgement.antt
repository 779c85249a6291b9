-- The answer to a call for a verdict: the verdict, or the number of the rule that refuses (document 01, "A held sketch"). Assumes nothing.
use Rattle.std.specs.Prelude.{ℕ, Result}
use Rattle.theory.specs.declared.Verdict.{Verdict}
pub use Rattle.std.specs.Prelude.{Ok as Is, Err as Refused}

abbrev pub Judgement : Type 0
Judgement = Result Verdict ℕ
