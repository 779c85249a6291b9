-- The check of a saved plan, a list of numbers, three a step. Document 01, "Refused", rules 12 to 16: the count of numbers is tried first, then the
-- steps one after another, each by 13 and 15, and then 16. Request 2026-06 took rule 14 out of the list (Rule14.antt). Everything here computes.
-- Assumes nothing.
use Rattle.std.specs.Prelude.{◌≡◌, Bool, true, false, ◌||◌, List, [], ◌∷◌, ℕ, zero, suc, ◌%◌, eqb, length}
use Rattle.theory.specs.Constraints.{NotOver}
use Rattle.theory.specs.Merge.{slot, Merge, merge, put}
use Rattle.theory.specs.Plan.{open_test, first_of, is_some}
use Rattle.theory.specs.Rule.{refusal}
use Rattle.merges.specs.Run.{run_in, Merged}
use Rattle.plans.specs.declared.Parts.{Parts}
use Rattle.plans.specs.declared.Checked.{Checked}
pub mod Laws

-- ---- a step m, whose clusters are a, b and c

-- 13: the step names a number that is no living cluster, or one cluster twice
unfoldable pub misnamed : ℕ → ℕ → ℕ → Merge → Bool
misnamed a b c m = eqb a 0 || (eqb b 0 || (eqb c 0 || (eqb m.i m.j || (eqb m.j m.k || eqb m.i m.k))))

-- the rule that refuses the step, 0 if none; 15: the step's clusters do not otherwise make an open merge
unfoldable pub fault_of : ℕ → ℕ → ℕ → Merge → ℕ
fault_of a b c m = elim (misnamed a b c m) [ true ↦ 13 | false ↦ elim (open_test a b c) [ true ↦ 0 | false ↦ 15 ] ]

unfoldable pub step_fault : List ℕ → Merge → ℕ
step_fault s m = fault_of (slot s m.i) (slot s m.j) (slot s m.k) m

-- ---- the plan

-- three numbers a step
unfoldable pub saved_steps_of : List ℕ → List Merge
saved_steps_of (i ∷ j ∷ k ∷ l) = merge i j k ∷ saved_steps_of l
saved_steps_of (i ∷ j ∷ []) = []
saved_steps_of (i ∷ []) = []
saved_steps_of [] = []

-- the rule that refuses the steps, 0 if none; 16: after the last step a merge is still open
unfoldable pub steps_fault : List ℕ → List Merge → ℕ
steps_fault s [] = elim (is_some (first_of 0 s)) [ true ↦ 16 | false ↦ 0 ]
steps_fault s (m ∷ p) = elim (step_fault s m) [ zero ↦ steps_fault (put s m) p | suc r ↦ suc r ]

-- the rule that refuses the plan, 0 if none; 12: the count of numbers is not a multiple of three
unfoldable pub plan_fault : List ℕ → List ℕ → ℕ
plan_fault cs l = elim (eqb (length l % 3) 0) [ true ↦ steps_fault cs (saved_steps_of l) | false ↦ 12 ]

-- ---- in the code's terms

abbrev pub as_merge : Parts → Merge
as_merge p = merge p.i p.j p.k

-- what is checked: the rule, where the constraints are not over; the arrays hold merges that can be made in any case, and those of the plan where
-- no rule refuses it
pub record Checks (cs l : List ℕ) (r : Checked) (parts joints slots : List ℕ) : Type 0 where
  pub rule_is : NotOver cs → refusal r.outcome ≡ plan_fault cs l
  pub merged : Merged cs (run_in r.steps parts joints slots)
  pub saved : refusal r.outcome ≡ 0 → merged.p ≡ saved_steps_of l
