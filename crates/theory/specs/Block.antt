-- A list in a block of places. Assumes nothing.
use Rattle.std.specs.Prelude.{List, ◌++◌, ℕ, ◌-◌, length, replicate}
pub mod Laws

-- a list in a block of so many places, blank beyond it
abbrev pub block : {A : Type 0} → ℕ → A → List A → List A
block places blank xs = xs ++ replicate (places - length xs) blank
