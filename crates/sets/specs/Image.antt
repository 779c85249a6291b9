-- The image of a set by a table of sets: the union of the table's entries at its elements. Assumes nothing.
use Rattle.theory.specs.Prelude.{List, ℕ, get_or}
use Rattle.theory.specs.Set.{◌∈◌}
pub mod Laws

pub record Image (table : List ℕ) (set image : ℕ) : Type 0 where
  pub only : (r : ℕ) → r ∈ image → (p : ℕ) × (p ∈ set) × (r ∈ get_or table p 0)
  pub every : (p r : ℕ) → p ∈ set → r ∈ get_or table p 0 → r ∈ image
