-- The report, in ASCII. Document 01, "The report": the first line gives the verdict, the second n and e; then the steps in plan order, then the
-- final clusters by number; for "over" two lines follow the second, and none after them. Document 02, 2026-04: each cluster line ends with "rests on"
-- and the constraints that the cluster came from. Assumes nothing.
use Rattle.std.specs.Prelude.{ℕ, suc, cond, List, [], ◌∷◌, ◌++◌, map, eqb}
use Rattle.space.specs.Text.{ascii, decimal}
use Rattle.theory.specs.declared.Verdict.{Verdict}
use Rattle.theory.specs.declared.Verdict.TheVariants.{Over, Angle, Well, Stuck, Under}
use Rattle.theory.specs.declared.JointKind.{JointKind}
use Rattle.theory.specs.declared.JointKind.TheVariants.{Ppp, Ppl, Pll, Lll}
use Rattle.theory.specs.declared.Ways.{Ways}
use Rattle.theory.specs.declared.Ways.TheVariants.{Known, Unknown}
use Rattle.theory.specs.declared.Step.{Step}
use Rattle.report.specs.Elements.{elements, constraints_of}
pub mod Laws
pub mod Length
pub mod Bound
pub mod Front

-- ---- words and lines

-- what follows a line's first word: each word with one space before it, and byte 10 at the end
abbrev pub others : List (List ℕ) → List ℕ
others [] = 10 ∷ []
others (w ∷ ws) = 32 ∷ w ++ others ws

-- a line: one space between words, ended by byte 10
abbrev pub line : List (List ℕ) → List ℕ
line [] = 10 ∷ []
line (w ∷ ws) = w ++ others ws

-- ---- names and numbers

abbrev pub verdict_name : Verdict → List ℕ
verdict_name Over = ascii "over"
verdict_name Angle = ascii "angle"
verdict_name Well = ascii "well"
verdict_name Stuck = ascii "stuck"
verdict_name Under = ascii "under"

abbrev pub kind_name : JointKind → List ℕ
kind_name Ppp = ascii "ppp"
kind_name Ppl = ascii "ppl"
kind_name Pll = ascii "pll"
kind_name Lll = ascii "lll"

abbrev pub ways_name : Ways → List ℕ
ways_name (Known w) = decimal w
ways_name Unknown = ascii "?"

-- a set's elements, a word each
abbrev pub listed : ℕ → List (List ℕ)
listed a = map decimal (elements a)

-- ---- the lines

abbrev pub verdict_line : Verdict → List ℕ
verdict_line v = line (ascii "verdict" ∷ verdict_name v ∷ [])

abbrev pub elements_line : ℕ → ℕ → List ℕ
elements_line n e = line (ascii "elements" ∷ decimal n ∷ ascii "constraints" ∷ decimal e ∷ [])

-- the cluster made, its parts, the joint, the kind and the placements
unfoldable pub step_line : Step → List ℕ
step_line s =
    line (
    ascii "step" ∷ decimal s.made ∷ ascii "from" ∷ decimal s.i ∷ decimal s.j ∷ decimal s.k
    ∷ ascii "joint" ∷ listed s.joint ++ (ascii "kind" ∷ kind_name s.kind ∷ ascii "ways" ∷ ways_name s.ways ∷ [])
    )

-- a final cluster's number, its elements, and the constraints it rests on
unfoldable pub cluster_line : ℕ → ℕ → ℕ → List ℕ
cluster_line c a r = line (ascii "cluster" ∷ decimal c ∷ ascii "holds" ∷ listed a ++ (ascii "rests" ∷ ascii "on" ∷ map decimal (constraints_of r)))

unfoldable pub step_lines : List Step → List ℕ
step_lines [] = []
step_lines (s ∷ steps) = step_line s ++ step_lines steps

-- cluster c stands at place c; a dead one is the empty set and has no line
unfoldable pub slot_line : ℕ → ℕ → ℕ → List ℕ
slot_line c a r = cond (eqb a 0) [] (cluster_line c a r)

-- the living clusters from c on, and what they rest on
unfoldable pub cluster_lines : ℕ → List ℕ → List ℕ → List ℕ
cluster_lines c [] rests = []
cluster_lines c (a ∷ slots) [] = []
cluster_lines c (a ∷ slots) (r ∷ rests) = slot_line c a r ++ cluster_lines (suc c) slots rests

-- ---- the report

unfoldable pub report : ℕ → ℕ → Verdict → List Step → List ℕ → List ℕ → List ℕ
report n e v steps slots rests = verdict_line v ++ (elements_line n e ++ (step_lines steps ++ cluster_lines 0 slots rests))

-- the first constraint that makes the listed ones up to it over, and the smallest set
unfoldable pub over_report : ℕ → ℕ → ℕ → ℕ → List ℕ
over_report n e first set =
    verdict_line Over ++ (elements_line n e ++ (line (ascii "first" ∷ decimal first ∷ []) ++ line (ascii "set" ∷ listed set)))
