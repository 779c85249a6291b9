-- The sheet with the longest plan (document 02, 2026-12): its facts, and what is promised of it.
use Rattle.std.specs.Prelude.{◌≡◌, ◌≢◌, List, [], ◌∷◌, ◌++◌, ℕ, zero, suc, ◌-◌, ◌≤◌, pos, length, replicate}
use Rattle.theory.specs.Constraints.{Perm}
use Rattle.theory.specs.Merge.{Merge, Valid}
use Rattle.theory.specs.Plan.{plan_of}
use Rattle.theory.specs.Graph.{verdict_of}
use Rattle.theory.specs.declared.Verdict.TheVariants.{Over, Well}
use Rattle.sheet.specs.declared.Opening.TheVariants.{Pf01}
use Rattle.sheet.specs.declared.Element.{Element}
use Rattle.sheet.specs.declared.Size.TheVariants.{Given}
use Rattle.sheet.specs.declared.Constraint.{Constraint}
use Rattle.sheet.specs.Facts.{Facts, blank_element}
use Rattle.sheet.specs.Field.{Field, value, demand}
use Rattle.sheet.specs.Rules.{elements_in_range}
use Rattle.sheet.specs.Decode.{read_sheet}
use Rattle.sheet.specs.Encode.{sheet_bytes}
use Rattle.sheet.specs.Accepted.{Accepted}
use Rattle.sheet.specs.Graph.{graph_of, reordered}
pub mod Rules
pub mod Sparse
pub mod Block
pub mod Proof

abbrev pub distance : ℕ → ℕ → Constraint
distance a b = record { first = a; second = b; size = Given (pos 300) }

-- pair (0,1) first and then, for each k from 2 on, pairs (k-2,k) and (k-1,k): so many k
unfoldable pub strip : ℕ → List Constraint
strip zero = distance 0 1 ∷ []
strip (suc j) = strip j ++ distance j (suc (suc j)) ∷ distance (suc j) (suc (suc j)) ∷ []

abbrev pub points : ℕ → List Element
points n = replicate n blank_element

-- the sheet of n points
abbrev pub longest_sheet : ℕ → Facts
longest_sheet n = record { opening = Pf01; elements = points n; constraints = strip (n - 2) }

-- its bytes; another n meets rule 3
unfoldable pub longest_field : ℕ → Field (List ℕ)
longest_field n = demand (elements_in_range n) 3 (value (sheet_bytes (longest_sheet n)) [])

-- how many steps a plan of the sheet's own has
abbrev pub plan_steps : Facts → ℕ
plan_steps f = length (plan_of (graph_of f).clusters)

pub record Longest (n : ℕ) : Type 0 where
  -- no rule refuses it, and its bytes read as its facts
  pub accepted : Accepted (longest_sheet n)
  pub reads : read_sheet (sheet_bytes (longest_sheet n)) ≡ value (longest_sheet n) []
  -- its verdict is well, and its plan has n-2 steps
  pub well : verdict_of (graph_of (longest_sheet n)) ≡ Well
  pub steps : plan_steps (longest_sheet n) ≡ n - 2
  -- no sheet of n elements that isn't over has a longer list of merges, maximal or not, in any order of its constraints and of merging
  pub most : (f : Facts) → Accepted f → length f.elements ≡ n → verdict_of (graph_of f) ≢ Over → (ds : List Constraint) → Perm f.constraints ds
      → (p : List Merge) → Valid (graph_of (reordered f ds)).clusters p → length p ≤ plan_steps (longest_sheet n)
