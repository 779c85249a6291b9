-- Demand 1: nothing is refused except by a numbered rule. Which rules refuse a field, if any does.
use Rattle.std.specs.Prelude.{◌≤◌, ◌≢◌, ◌⊎◌}
use Rattle.theory.specs.Prelude.{ℕ, zero, suc, List}
use Rattle.sheet.specs.Field.{Field, value, refused}
pub mod Laws

-- the rules from low to high
pub record Rule (low high k : ℕ) : Type 0 where
  pub from : low ≤ k
  pub to : k ≤ high

-- the rules of a sheet that is read: 1 to 10, and those of circles (document 02, 2026-01)
abbrev pub OfSheet : ℕ → Type 0
OfSheet k = Rule 1 10 k ⊎ Rule 18 20 k

-- all of these rules but one
abbrev pub But : ℕ → (ℕ → Type 0) → ℕ → Type 0
But j rules k = rules k × (k ≢ j)

pub data By {A : Type 0} (rules : ℕ → Type 0) : Field A → Type 0 where
  given : {a : A} {s : List ℕ} → By rules (value a s)
  ruled : {k : ℕ} → rules k → By rules (refused k)

-- the number of the rule that refuses, 0 where none does
abbrev pub Fault : (ℕ → Type 0) → ℕ → Type 0
Fault rules zero = Unit {0}
Fault rules (suc k) = rules (suc k)
