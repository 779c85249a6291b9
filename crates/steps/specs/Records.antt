-- The plan as a list of step records that a caller lends. Document 02, 2026-04: "A caller may also take the plan as a list of step records, lent by
-- the
-- caller, one record for each step. A record holds what the step's report line gives; an over sheet meets 11."
use Rattle.std.specs.Prelude.{ℕ, ◌≡◌, cond, List, [], ◌∷◌, ◌++◌, ltb, length, drop}
use Rattle.theory.specs.Plan.{plan_of}
use Rattle.theory.specs.Graph.{SizedGraph, steps_of}
use Rattle.theory.specs.declared.JointKind.{JointKind}
use Rattle.theory.specs.declared.JointKind.TheVariants.{Ppp, Ppl, Pll, Lll}
use Rattle.theory.specs.declared.Ways.{Ways}
use Rattle.theory.specs.declared.Ways.TheVariants.{Known, Unknown}
use Rattle.theory.specs.declared.Step.{Step}
use Rattle.space.specs.Written.{Written}
use Rattle.space.specs.Written.{Done, Refused}
use Rattle.sheet.specs.Field.{Field, value, refused, next}
use Rattle.sheet.specs.Answer.{by_rule}
use Rattle.plans.specs.Check.{saved_steps_of, plan_fault}
pub mod Laws
pub mod Lines

-- ---- the records: those that the report's step lines are written from

-- of the engine's plan
unfoldable pub plan_steps : SizedGraph → List Step
plan_steps g = steps_of g (plan_of g.graph.clusters)

-- of a saved plan, in the saved order, or the rule of the plan check that refuses it
abbrev pub saved_records : SizedGraph → List ℕ → Field (List Step)
saved_records g l = by_rule (plan_fault g.graph.clusters l) (value (steps_of g (saved_steps_of l)) [])

-- ---- over a lent list of records; `sheet` Answer says the same of bytes and numbers

-- how many records are written, or 17 where the list is shorter (document 01, "Refused")
abbrev pub filled_to : Field (List Step) → List Step → Written
filled_to (value steps rest) list = cond (ltb (length list) (length steps)) (Refused 17) (Done (length steps))
filled_to (refused k) list = Refused k

-- the list after that call: a refusal leaves it, and the records beyond the steps are as they were
abbrev pub list_after : Field (List Step) → List Step → List Step
list_after (value steps rest) list = cond (ltb (length list) (length steps)) list (steps ++ drop (length steps) list)
list_after (refused k) list = list

-- a call that gives the steps, or the rule that refuses, answers r and leaves this in the lent list
pub record Fills (x : Field (List Step)) (list : List Step) (r : Written) (left : List Step) : Type 0 where
  pub answer_is : r ≡ filled_to x list
  pub left_is : left ≡ list_after x list

-- ---- a record as numbers, for C

-- how many of the joint's elements are lines
abbrev pub kind_number : JointKind → ℕ
kind_number Ppp = 0
kind_number Ppl = 1
kind_number Pll = 2
kind_number Lll = 3

-- how many placements there are; 256 where that is not known
abbrev pub ways_number : Ways → ℕ
ways_number (Known w) = w
ways_number Unknown = 256

-- seven numbers: the cluster made, its parts, the joint as a set, the kind, the placements
abbrev pub numbers_of : Step → List ℕ
numbers_of s = s.made ∷ s.i ∷ s.j ∷ s.k ∷ s.joint ∷ kind_number s.kind ∷ ways_number s.ways ∷ []

unfoldable pub step_numbers : List Step → List ℕ
step_numbers [] = []
step_numbers (s ∷ steps) = numbers_of s ++ step_numbers steps

-- the numbers of the steps, or the rule that refuses these
abbrev pub numbers_field : Field (List Step) → Field (List ℕ)
numbers_field x = next x (λ steps rest. value (step_numbers steps) [])
