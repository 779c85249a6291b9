-- The check of a saved plan of a sheet, its merges in arrays that a caller lends. Assumes nothing.
use Rattle.std.specs.Prelude.{◌≡◌, List, ℕ, Result, Ok, Err}
use Rattle.theory.specs.Constraints.{NotOver}
use Rattle.theory.specs.declared.Rule.{Rule}
use Rattle.theory.specs.Rule.{rule_number}
use Rattle.theory.specs.Graph.{Graph}
use Rattle.merges.specs.Run.{run_in, Merged}
use Rattle.plans.specs.Check.{saved_steps_of}
use Rattle.account.specs.Account.{saved_fault}
pub mod Laws

-- one that no rule refuses: the sheet is not over, and the arrays hold the plan's merges
pub record SavedPlan (g : Graph) (l : List ℕ) (steps : ℕ) (parts joints slots : List ℕ) : Type 0 where
  pub none : saved_fault g l ≡ 0
  pub not_over : NotOver g.clusters
  pub merged : Merged g.clusters (run_in steps parts joints slots)
  pub saved : merged.p ≡ saved_steps_of l

-- that, with how many merges there are, or the rule that refuses it
abbrev pub SavedIn : Graph → List ℕ → Result ℕ Rule → List ℕ → List ℕ → List ℕ → Type 0
SavedIn g l (Ok steps) parts joints slots = SavedPlan g l steps parts joints slots
SavedIn g l (Err r) parts joints slots = saved_fault g l ≡ rule_number r
