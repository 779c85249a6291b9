-- The rules that refuse, by number: document 01, "Refused, in checking order"; document 02, 2026-01, 2026-02, 2026-05, 2026-08 and 2026-14.
-- Number 14 is not used again (2026-06). Assumes nothing.
use Rattle.std.specs.Prelude.{ℕ}
use Rattle.std.specs.Prelude.{Result, Ok, Err}
use Rattle.theory.specs.declared.Rule.{Rule}
use Rattle.theory.specs.declared.Rule.TheVariants.{Opening, CutShort, ElementCount, KindBits, ConstraintCount, Ends, PairTwice, SizeMap, SizeRange, BytesLeft, OverSheet, PlanLength, NoCluster, NotOpen, StillOpen, NoRoom, UnknownKind, RadiusRange, EqualRadii, PriceCount, PriceRange, NoCompletion, HeldCount, NoElement, NoPart, NoSketch}
pub mod Laws

abbrev pub rule_number : Rule → ℕ
-- the opening is short or different
rule_number Opening = 1
-- the sheet ends inside a field, or before one that must follow
rule_number CutShort = 2
-- the element count is outside 2 to 64
rule_number ElementCount = 3
-- an unused kind bit is 1
rule_number KindBits = 4
-- the constraint count is above 200
rule_number ConstraintCount = 5
-- the ends are not first below second below n
rule_number Ends = 6
-- the pair stands in an earlier constraint
rule_number PairTwice = 7
-- the map has a bit that no pair takes, or no size where one must stand
rule_number SizeMap = 8
-- the size is outside its range
rule_number SizeRange = 9
-- bytes follow the last constraint
rule_number BytesLeft = 10
-- the sheet is over, or would be
rule_number OverSheet = 11
-- the count of numbers in a plan is not a multiple of three
rule_number PlanLength = 12
-- a plan step names no living cluster, or one twice
rule_number NoCluster = 13
-- the step makes no open merge
rule_number NotOpen = 15
-- after the last step a merge is still open
rule_number StillOpen = 16
-- the lent space is shorter than the answer
rule_number NoRoom = 17
-- an element has kind 3, or is a circle under PF01
rule_number UnknownKind = 18
-- a radius is out of range
rule_number RadiusRange = 19
-- the other contact of two circles with equal radii
rule_number EqualRadii = 20
-- the price list is not n(n-1)/2 long
rule_number PriceCount = 21
-- a price is 1,001 to 65,534
rule_number PriceRange = 22
-- no permitted set of pairs will do
rule_number NoCompletion = 23
-- the number of constraints held is another
rule_number HeldCount = 24
-- an element number is not below n
rule_number NoElement = 25
-- a cluster number is not below e plus the steps
rule_number NoPart = 26
-- the record stands for no sheet that may be held
rule_number NoSketch = 27

-- the number of the rule that refuses, 0 where none does
abbrev pub refusal : {A : Type 0} → Result A Rule → ℕ
refusal (Ok a) = 0
refusal (Err r) = rule_number r

-- the same answer with the rule's number in the place of the rule
abbrev pub by_number : {A : Type 0} → Result A Rule → Result A ℕ
by_number (Ok a) = Ok a
by_number (Err r) = Err (rule_number r)
