-- The block that the lines of a report are put into, and the table that its numbers are taken from. No promise speaks of them. Assumes nothing.
use Rattle.std.specs.Prelude.{◌+◌, ◌/◌, ◌%◌, ◌≤◌, ◌≡◌, ◌&&◌, ◌∷◌, ◌++◌}
use Rattle.theory.specs.Prelude.{ℕ, suc, Bool, true, List, [], T, eqb, length, get_or, take}
use Rattle.space.specs.Text.{decimal}
pub mod Laws
pub mod Buffered

-- room for the longest report, and for the largest piece behind it, in bytes
abbrev pub block : ℕ
block = 5472

-- items put into a space from the place at: where they have room, they stand there after what stood before the place. Of what follows them nothing
-- is told.
pub record Stands (space : List ℕ) (at : ℕ) (items : List ℕ) (next : ℕ) (after : List ℕ) : Type 0 where
  pub next_is : next ≡ at + length items
  pub length_is : length after ≡ length space
  pub front_is : next ≤ length space → take next after ≡ take at space ++ items

-- byte i of the table: four for each number, which begin with a space and its digits
abbrev pub numeral_byte : ℕ → ℕ
numeral_byte i = get_or (32 ∷ decimal (i / 4)) (i % 4) 32

-- the table's rule, tested over bytes that stand from place i on
unfoldable pub all_numerals : ℕ → List ℕ → Bool
all_numerals i [] = true
all_numerals i (x ∷ xs) = eqb x (numeral_byte i) && all_numerals (suc i) xs

-- the table of the numbers below 256
pub record Numerals (text : List ℕ) : Type 0 where
  pub length_is : length text ≡ 1024
  pub right : T (all_numerals 0 text)
