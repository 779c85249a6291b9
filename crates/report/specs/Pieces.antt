-- Pieces of the report's lines, as the code puts them one after another, and the bound it asks of a step's numbers. Assumes nothing.
use Rattle.std.specs.Prelude.{◌+◌, ◌-◌, ◌*◌, ◌^◌, ◌<◌, ◌∷◌, ◌++◌}
use Rattle.theory.specs.Prelude.{ℕ, ℤ, List, [], map}
use Rattle.space.specs.Text.{ascii, decimal}
use Rattle.theory.specs.declared.Verdict.{Verdict}
use Rattle.theory.specs.declared.JointKind.{JointKind}
use Rattle.theory.specs.declared.Ways.{Ways}
use Rattle.theory.specs.declared.Step.{Step}
use Rattle.engine.specs.Steps.{step_at, steps_for}
use Rattle.report.specs.Elements.{elements}
use Rattle.report.specs.Report.{others, kind_name, ways_name, verdict_line, elements_line, step_lines}

-- numbers, a space before each
unfoldable pub numbers : List ℕ → List ℕ
numbers [] = []
numbers (x ∷ xs) = 32 ∷ decimal x ++ numbers xs

-- numbers from a first one on
abbrev pub above : ℕ → List ℕ → List ℕ
above first xs = map (λ (x : ℕ). first + x) xs

-- sets in two words each, the numbers to 63 in the low ones, those from 64 on in the high ones
unfoldable pub wide : List ℕ → List ℕ → List ℕ
wide [] high = []
wide (l ∷ low) [] = []
wide (l ∷ low) (h ∷ high) = (h * 2 ^ 64 + l) ∷ wide low high

-- the number of the cluster made, and of its parts
abbrev pub parts_words : ℕ → ℕ → ℕ → ℕ → List ℕ
parts_words made i j k =
    ascii "step" ++ (32 ∷ decimal made ++ (ascii " from" ++ (32 ∷ decimal i ++ (32 ∷ decimal j ++ 32 ∷ decimal k))))

-- from the kind to the word before the placements
abbrev pub kind_words : JointKind → List ℕ
kind_words k = ascii " kind " ++ (kind_name k ++ ascii " ways")

-- the placements, at the end of the line
abbrev pub ways_words : Ways → List ℕ
ways_words w = others (ways_name w ∷ [])

-- what a cluster rests on, in two words, at the end of the line
abbrev pub rest_words : ℕ → ℕ → List ℕ
rest_words low high = ascii " rests on" ++ (numbers (elements low) ++ (numbers (above 64 (elements high)) ++ 10 ∷ []))

-- the steps in the arrays from `first` to before `last`
abbrev pub steps_between : ℕ → ℕ → List ℤ → List ℕ → List ℕ → List ℕ → ℕ → ℕ → List Step
steps_between lines e sizes cs parts joints first last = steps_for (step_at lines e sizes cs parts joints) first (last - first)

-- a report of a sheet that is not over, up to its clusters
unfoldable pub front : ℕ → ℕ → Verdict → List Step → List ℕ
front n e v steps = verdict_line v ++ (elements_line n e ++ step_lines steps)

-- the longest report of a sheet that is not over, in bytes
abbrev pub longest : ℕ
longest = 4667

-- the numbers of a step, and of each of several, are below 256
pub record Small (s : Step) : Type 0 where
  pub made_small : s.made < 256
  pub i_small : s.i < 256
  pub j_small : s.j < 256
  pub k_small : s.k < 256

abbrev pub AllSmall : List Step → Type 0
AllSmall [] = Unit {0}
AllSmall (s ∷ steps) = Small s × AllSmall steps
