-- Writing items into lent space, bytes or numbers alike (document 01, "Refused": rule 17 and "After an accepted call the lent space beyond the answer
-- is unchanged").
use Rattle.std.specs.Prelude.{ℕ, ◌+◌, ◌≤◌, ◌≡◌, cond, List, ◌++◌, ltb, length, drop}
use Rattle.std.proofs.lemmas.List.Edits.{sets}
use Rattle.space.specs.Written.{Written}
use Rattle.space.specs.Written.{Done, Refused}
pub mod Laws

-- the answer to a call that writes these items from the front of the space: their count, or 17 where the space is shorter
unfoldable pub answer : {A : Type 0} → List A → List A → Written
answer items space = cond (ltb (length space) (length items)) (Refused 17) (Done (length items))

-- the space after that call
unfoldable pub after : {A : Type 0} → List A → List A → List A
after items space = cond (ltb (length space) (length items)) space (items ++ drop (length items) space)

-- items put into a space from the place at: the place after them is known in any case, so that a call over no space measures; where they have
-- room, they stand there and the rest is as it was
pub record Put {A : Type 0} (space : List A) (at : ℕ) (items : List A) (next : ℕ) (after : List A) : Type 0 where
  pub next_is : next ≡ at + length items
  pub length_is : length after ≡ length space
  pub after_is : at + length items ≤ length space → after ≡ sets space at items
