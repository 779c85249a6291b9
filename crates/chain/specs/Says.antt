-- The answer to a call for the chain: how many clusters its run has, that there is none, or the number of the rule that refuses. Document 02, 2026-08.
-- Assumes nothing.
use Rattle.std.specs.Prelude.{ℕ, Result, Ok, Err, Option, Some}
use Rattle.std.specs.Prelude.{None as Nothing}
use Rattle.theory.specs.declared.Rule.{Rule}
use Rattle.theory.specs.Rule.{rule_number}

pub data Answer : Type 0 where
  Run : ℕ → Answer
  None : Answer
  Refused : ℕ → Answer

-- as it is answered
abbrev pub says : Result (Option ℕ) Rule → Answer
says (Ok (Some n)) = Run n
says (Ok Nothing) = None
says (Err r) = Refused (rule_number r)
