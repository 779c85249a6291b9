-- What a call answers over lent space, bytes or numbers alike (document 01, "Refused": a refusal gives its number alone and leaves the lent space,
-- rule 17 comes last; "After an accepted call the lent space beyond the answer is unchanged").
use Rattle.std.specs.Prelude.{ℕ, zero, suc, ◌≡◌, List}
use Rattle.space.specs.Written.{Written}
use Rattle.space.specs.Written.{Refused}
use Rattle.space.specs.Space.{answer, after}
use Rattle.sheet.specs.Field.{Field, value, refused}
pub mod Laws

-- the rule that refuses, else the field
abbrev pub by_rule : {A : Type 0} → ℕ → Field A → Field A
by_rule zero x = x
by_rule (suc k) x = refused (suc k)

abbrev pub answer_to : Field (List ℕ) → List ℕ → Written
answer_to (value items rest) space = answer items space
answer_to (refused k) space = Refused k

-- the space after that call
abbrev pub after_to : Field (List ℕ) → List ℕ → List ℕ
after_to (value items rest) space = after items space
after_to (refused k) space = space

-- a call that gives the items, or the rule that refuses, answers r and leaves this in the space
pub record Answers (x : Field (List ℕ)) (space : List ℕ) (r : Written) (left : List ℕ) : Type 0 where
  pub answer_is : r ≡ answer_to x space
  pub left_is : left ≡ after_to x space
