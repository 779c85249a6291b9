-- The card of five points (document 02, 2026-10): every set of distances among n points, by number, with its verdict.
use Rattle.std.specs.Prelude.{List, [], ◌∷◌, ◌++◌, Bool, true, false, ◌&&◌, ℕ, zero, suc, ◌/◌, ◌%◌, ◌^◌, eqb, pos, length, replicate}
use Rattle.theory.specs.Graph.{verdict_of}
use Rattle.theory.specs.declared.Verdict.{Verdict}
use Rattle.theory.specs.declared.Verdict.TheVariants.{Over, Angle, Well, Stuck, Under}
use Rattle.sheet.specs.declared.Opening.TheVariants.{Pf01}
use Rattle.sheet.specs.declared.Size.TheVariants.{Given}
use Rattle.sheet.specs.declared.Constraint.{Constraint}
use Rattle.sheet.specs.Facts.{Facts, blank_element}
use Rattle.sheet.specs.Graph.{graph_of}
pub mod Table
pub mod Every

abbrev pub distance : ℕ → ℕ → Constraint
distance a b = record { first = a; second = b; size = Given (pos 300) }

-- a with each of the k elements from b on
unfoldable pub with_each : ℕ → ℕ → ℕ → List Constraint
with_each a b zero = []
with_each a b (suc k) = distance a b ∷ with_each a (suc b) k

-- each two of the k elements from a on, in dictionary order
unfoldable pub each_two : ℕ → ℕ → List Constraint
each_two a zero = []
each_two a (suc k) = with_each a (suc a) k ++ each_two (suc a) k

-- the items whose bit stands, the first item's bit the lowest; bits beyond the items have no influence
unfoldable pub standing : ℕ → List Constraint → List Constraint
standing i [] = []
standing i (c ∷ cs) = elim (eqb (i % 2) 1) [ true ↦ c ∷ standing (i / 2) cs | false ↦ standing (i / 2) cs ]

-- the sheet of n points with the pairs whose bit stands in i, pair (0,1) the lowest bit, then dictionary order
unfoldable pub points_sheet : ℕ → ℕ → Facts
points_sheet n i = record { opening = Pf01; elements = replicate n blank_element; constraints = standing i (each_two 0 n) }

unfoldable pub set_verdict : ℕ → ℕ → Verdict
set_verdict n i = verdict_of (graph_of (points_sheet n i))

-- how many sets there are
unfoldable pub sets : ℕ → ℕ
sets n = 2 ^ length (each_two 0 n)

-- the first letter of a verdict's name, in ASCII: o, a, w, s, u
abbrev pub initial : Verdict → ℕ
initial Over = 111
initial Angle = 97
initial Well = 119
initial Stuck = 115
initial Under = 117

-- the entry rule, tested over the whole table: each letter is that of the verdict of the set of its place, counted from i
unfoldable pub all_right : ℕ → List ℕ → Bool
all_right i [] = true
all_right i (x ∷ xs) = eqb x (initial (set_verdict 5 i)) && all_right (suc i) xs
