-- Request 2026-06: on a sheet that isn't over, two living clusters never share two elements, whatever merges came before. So rule 14 refused no plan
-- that rule 11 lets through. Here stands the check as it was, each step tried by 13, 14 and 15, and what is claimed of it beside the check without
-- (Check.antt). Shown by `never-14` of Rule14/Proof.antt; of every sheet by `own-lists` (crate account, Own.antt). Assumes nothing.
use Rattle.std.specs.Prelude.{◌≡◌, ◌≢◌, ◌||◌, ◌∷◌, ◌%◌}
use Rattle.theory.specs.Prelude.{Bool, true, false, List, [], ℕ, zero, suc, leb, eqb, ones, length}
use Rattle.theory.specs.Set.{◌∩◌}
use Rattle.theory.specs.Merge.{slot, Merge, put, Valid, final, ShareOne}
use Rattle.theory.specs.Plan.{open_test, first_of, is_some}
use Rattle.plans.specs.Check.{misnamed, saved_steps_of, plan_fault}
pub mod Proof

-- 14: two of the step's clusters share two or more elements
unfoldable pub overlapping : ℕ → ℕ → ℕ → Bool
overlapping a b c = leb 2 (ones (a ∩ b)) || (leb 2 (ones (b ∩ c)) || leb 2 (ones (a ∩ c)))

unfoldable pub fault_of14 : ℕ → ℕ → ℕ → Merge → ℕ
fault_of14 a b c m =
    elim (misnamed a b c m) [ true ↦ 13 | false ↦ elim (overlapping a b c) [ true ↦ 14 | false ↦ elim (open_test a b c) [ true ↦ 0 | false ↦ 15 ] ] ]

unfoldable pub step_fault14 : List ℕ → Merge → ℕ
step_fault14 s m = fault_of14 (slot s m.i) (slot s m.j) (slot s m.k) m

unfoldable pub steps_fault14 : List ℕ → List Merge → ℕ
steps_fault14 s [] = elim (is_some (first_of 0 s)) [ true ↦ 16 | false ↦ 0 ]
steps_fault14 s (m ∷ p) = elim (step_fault14 s m) [ zero ↦ steps_fault14 (put s m) p | suc r ↦ suc r ]

-- the rule that refuses the plan l against the constraints cs, 0 if none, with rule 14 among the rules
unfoldable pub plan_fault14 : List ℕ → List ℕ → ℕ
plan_fault14 cs l = elim (eqb (length l % 3) 0) [ true ↦ steps_fault14 cs (saved_steps_of l) | false ↦ 12 ]

pub record Never14 (cs : List ℕ) : Type 0 where
  -- after any list of merges, each open at its turn
  pub living : (p : List Merge) → Valid cs p → ShareOne (final cs p)
  -- every list of numbers gets the same answer with rule 14 and without
  pub same : (l : List ℕ) → plan_fault14 cs l ≡ plan_fault cs l
  -- and that answer is never 14
  pub never : (l : List ℕ) → plan_fault cs l ≢ 14
