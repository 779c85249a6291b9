-- No rule has the number 0, which stands for none. Assumes nothing.
use Rattle.std.specs.Prelude.{◌≢◌}
use Rattle.theory.specs.Prelude.{arith}
use Rattle.theory.specs.Rule.{rule_number}
use Rattle.theory.specs.declared.Rule.{Rule}
use Rattle.theory.specs.declared.Rule.TheVariants.{Opening, CutShort, ElementCount, KindBits, ConstraintCount, Ends, PairTwice, SizeMap, SizeRange, BytesLeft, OverSheet, PlanLength, NoCluster, NotOpen, StillOpen, NoRoom, UnknownKind, RadiusRange, EqualRadii, PriceCount, PriceRange, NoCompletion, HeldCount, NoElement, NoPart, NoSketch}

pub rule-some : (r : Rule) → rule_number r ≢ 0
rule-some Opening = omega arith
rule-some CutShort = omega arith
rule-some ElementCount = omega arith
rule-some KindBits = omega arith
rule-some ConstraintCount = omega arith
rule-some Ends = omega arith
rule-some PairTwice = omega arith
rule-some SizeMap = omega arith
rule-some SizeRange = omega arith
rule-some BytesLeft = omega arith
rule-some OverSheet = omega arith
rule-some PlanLength = omega arith
rule-some NoCluster = omega arith
rule-some NotOpen = omega arith
rule-some StillOpen = omega arith
rule-some NoRoom = omega arith
rule-some UnknownKind = omega arith
rule-some RadiusRange = omega arith
rule-some EqualRadii = omega arith
rule-some PriceCount = omega arith
rule-some PriceRange = omega arith
rule-some NoCompletion = omega arith
rule-some HeldCount = omega arith
rule-some NoElement = omega arith
rule-some NoPart = omega arith
rule-some NoSketch = omega arith
