-- The steps by value, before a lent list is looked at: what the functions of this crate hand one another, and what of it goes into the list.
use Rattle.std.specs.Prelude.{ℕ, ◌≤◌, ◌≡◌, cond, List, [], ◌++◌, ltb, length, take, drop, Result, Ok, Err}
use Rattle.theory.specs.Block.{block}
use Rattle.theory.specs.declared.JointKind.TheVariants.{Ppp}
use Rattle.theory.specs.declared.Ways.TheVariants.{Known}
use Rattle.theory.specs.declared.Rule.{Rule}
use Rattle.theory.specs.declared.Rule.TheVariants.{NoRoom}
use Rattle.theory.specs.Rule.{rule_number, by_number}
use Rattle.theory.specs.declared.Step.{Step}
use Rattle.sheet.specs.Field.{Field, value, refused}
use Rattle.engine.specs.Steps.{blank_step}
use Rattle.steps.specs.declared.Listing.{Listing}
use Rattle.steps.specs.declared.Filled.{Filled}
use Rattle.steps.specs.Records.{step_numbers}

-- a field's steps in a block, or the rule that refuses them
unfoldable pub listing_of : Field (List Step) → Result Listing ℕ
listing_of (value steps rest) = Ok (record { count = length steps; steps = block 62 blank_step steps })
listing_of (refused k) = Err k

-- no list of merges has more than 62
abbrev pub Fit : Field (List Step) → Type 0
Fit (value steps rest) = length steps ≤ 62
Fit (refused k) = Unit {0}

pub record Listed (x : Field (List Step)) (r : Result Listing Rule) : Type 0 where
  pub is : by_number r ≡ listing_of x
  pub fit : Fit x

-- what stands in a block beyond its end
abbrev pub unset : Step
unset = record { made = 0; i = 0; j = 0; k = 0; joint = 0; kind = Ppp; ways = Known 0 }

-- how many records go into a list of this length: all, or none by 17
unfoldable pub taken_of : ℕ → ℕ → Result ℕ Rule
taken_of len count = cond (ltb 62 count) (Err NoRoom) (cond (ltb len count) (Err NoRoom) (Ok count))

abbrev pub taken : Result ℕ Rule → ℕ
taken (Ok n) = n
taken (Err r) = 0

-- the answer: of steps that a rule refused, that rule
abbrev pub answer_of : ℕ → Result Listing Rule → Result ℕ Rule
answer_of len (Ok l) = taken_of len l.count
answer_of len (Err r) = Err r

-- the records that are taken, and after them the list as it was
unfoldable pub filled : List Step → Result Listing Rule → List Step
filled list (Ok l) = take (taken (taken_of (length list) l.count)) l.steps ++ drop (taken (taken_of (length list) l.count)) list
filled list (Err r) = list

-- the same with a list by value
unfoldable pub filled_of : List Step → Result Listing Rule → Filled
filled_of list r = record { answer = answer_of (length list) r; list = filled list r }

-- from a list that was filled: the numbers of as many records as were written
abbrev pub numbers_from : List Step → Result ℕ Rule → Field (List ℕ)
numbers_from list (Ok n) = value (step_numbers (take n list)) []
numbers_from list (Err r) = refused (rule_number r)
