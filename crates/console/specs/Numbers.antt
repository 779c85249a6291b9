-- The 16-bit numbers of a file, lowest byte first; a last odd byte is none.
use Rattle.std.specs.Prelude.{ℕ, ◌+◌, ◌*◌, List, [], ◌∷◌, take}
pub mod Laws

unfoldable pub numbers_in : List ℕ → List ℕ
numbers_in (low ∷ high ∷ rest) = (low + 256 * high) ∷ numbers_in rest
numbers_in (low ∷ []) = []
numbers_in [] = []

-- as many of them as a list has places
unfoldable pub numbers_for : ℕ → List ℕ → List ℕ
numbers_for places bytes = take places (numbers_in bytes)
