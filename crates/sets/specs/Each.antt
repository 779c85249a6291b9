-- The elements of a set, lowest first: what holds of those that are passed, `rest` being those to come. Assumes nothing.
use Rattle.std.specs.Prelude.{◌≡◌, ◌^◌, ◌<◌}
use Rattle.theory.specs.Prelude.{ℕ}
use Rattle.theory.specs.Set.{◌∈◌, at}
pub mod Laws

pub record Each (P : ℕ → Type 0) (set rest : ℕ) : Type 0 where
  pub fits : rest < 2 ^ 64
  pub within : (p : ℕ) → p ∈ rest → p ∈ set
  pub passed : (p : ℕ) → p ∈ set → at p rest ≡ 0 → P p
