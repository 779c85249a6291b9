-- What is judged of a sheet whose plan stands in arrays that a caller lends. Assumes nothing.
use Rattle.std.specs.Prelude.{◌≡◌, Result, Ok, Err}
use Rattle.theory.specs.Prelude.{true, List, ℕ, eqb, take}
use Rattle.theory.specs.Constraints.{NotOver}
use Rattle.theory.specs.Merge.{final, left}
use Rattle.theory.specs.Plan.{plan_of}
use Rattle.theory.specs.Finding.{Fine, First}
use Rattle.theory.specs.declared.Excess.{Excess}
use Rattle.theory.specs.Graph.{Graph, finding_of}
use Rattle.graph.specs.declared.Head.{Head}
use Rattle.graph.specs.Lent.{graph_in}
use Rattle.merges.specs.Run.{Run, run_in}
use Rattle.judge.specs.declared.Found.{Found}
use Rattle.judge.specs.Judged.{Judged, judged_of}
pub mod Laws

-- what is found of a sheet that is not over, with a list of merges
abbrev pub judged_with : Found → Run → Judged
judged_with f run = record { verdict = f.verdict; first = 0; set = 0; run = run }

-- a sheet that is not over is judged so, with the list in the arrays; one cluster is left by it or not
pub record FoundIn (g : Graph) (f : Found) (parts joints slots : List ℕ) : Type 0 where
  pub fine : finding_of g ≡ Fine
  pub judged : judged_with f (run_in f.steps parts joints slots) ≡ judged_of g
  pub whole_is : f.whole ≡ eqb (left (final g.clusters (plan_of g.clusters))) 1

-- the sheet's judgement: that, or the first constraint that makes it over with the smallest set
abbrev pub JudgedIn : Graph → Result Found Excess → List ℕ → List ℕ → List ℕ → Type 0
JudgedIn g (Ok f) parts joints slots = FoundIn g f parts joints slots
JudgedIn g (Err x) parts joints slots = finding_of g ≡ First x.constraint x.set

-- merges of the constraints: the sheet's judgement where these are not over, which one cluster shows
pub record MergedIn (h : Head) (start : List ℕ) (f : Found) (parts joints slots : List ℕ) : Type 0 where
  pub fine : f.whole ≡ true → NotOver (take h.e start)
  pub judged : NotOver (take h.e start) → FoundIn (graph_in h start) f parts joints slots
