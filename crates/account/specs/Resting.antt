-- What the final clusters rest on, as a list of numbers. Document 02, 2026-04. Assumes nothing.
use Rattle.std.specs.Prelude.{ℕ, zero, suc, List, [], ◌∷◌, length}
use Rattle.theory.specs.Merge.{final}
use Rattle.theory.specs.Plan.{plan_of}
use Rattle.theory.specs.Graph.{Graph, finding_of}
use Rattle.theory.specs.Finding.{Finding}
use Rattle.theory.specs.Finding.{Fine, First}
use Rattle.theory.specs.Rests.{rests_on}
use Rattle.rests.specs.Words.{word}
pub mod Pairs
pub mod Laws

-- two words for each living cluster, by number: the constraint numbers to 63, and those from 64 on
unfoldable pub words_of : List ℕ → List ℕ → List ℕ
words_of [] rests = []
words_of (a ∷ slots) [] = []
words_of (zero ∷ slots) (r ∷ rests) = words_of slots rests
words_of (suc a ∷ slots) (r ∷ rests) = word 0 r ∷ word 1 r ∷ words_of slots rests

-- those of the engine's plan: none of an over sheet
abbrev pub rests_by : Graph → Finding → List ℕ
rests_by g Fine = words_of (final g.clusters (plan_of g.clusters)) (rests_on (length g.clusters) (plan_of g.clusters))
rests_by g (First c x) = []

unfoldable pub rest_numbers : Graph → List ℕ
rest_numbers g = rests_by g (finding_of g)
