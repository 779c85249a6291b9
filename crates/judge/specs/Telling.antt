-- What is told of a sheet's graph beside its verdict. Document 01, "Verdict names". Assumes nothing.
use Rattle.std.specs.Prelude.{◌≡◌, Result, Ok, Err}
use Rattle.theory.specs.Prelude.{ℕ, List, length}
use Rattle.theory.specs.Merge.{Merge, Valid}
use Rattle.theory.specs.Graph.{Graph, finding_of, verdict_of}
use Rattle.theory.specs.Finding.{Fine, First}
use Rattle.theory.specs.declared.Verdict.{Verdict}

-- the verdict, or the first constraint that makes it over
abbrev pub Tells : Graph → Result Verdict ℕ → Type 0
Tells g (Ok v) = (finding_of g ≡ Fine) × (v ≡ verdict_of g)
Tells g (Err c) = (x : ℕ) × (finding_of g ≡ First c x)

-- so many merges of the constraints cs can be made one after another
pub record Reached (cs : List ℕ) (steps : ℕ) : Type 0 where
  pub merges : List Merge
  pub valid : Valid cs merges
  pub count : length merges ≡ steps
