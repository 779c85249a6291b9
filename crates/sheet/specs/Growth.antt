-- More dimensions, never a smaller part, of sheets. Document 02, 2026-13. The clusters of a sheet are those of its constraint
-- graph (Graph.`graph_of`), whatever the kinds of its elements. Shown by `never-smaller` of Growth/Proof.antt and, for placed
-- dimensions, by `placed-never-smaller` of `sketch` Runs/Growth.antt. Assumes nothing.
use Rattle.std.specs.Prelude.{◌≡◌, ◌≢◌}
use Rattle.theory.specs.Prelude.{List}
use Rattle.theory.specs.Merge.{Merge, Maximal}
use Rattle.theory.specs.Graph.{verdict_of}
use Rattle.theory.specs.declared.Verdict.TheVariants.{Over}
use Rattle.theory.specs.Growth.{More, Whole}
use Rattle.sheet.specs.Facts.{Facts}
use Rattle.sheet.specs.Graph.{graph_of}
pub mod Proof

-- all that precedes the constraints is the same
pub record SameElements (f g : Facts) : Type 0 where
  pub opening : g.opening ≡ f.opening
  pub elements : g.elements ≡ f.elements

-- "constraints are added to a sheet", anywhere in the list and in any order: f is the old sheet, g the new
pub record Grown (f g : Facts) : Type 0 where
  pub same : SameElements f g
  pub more : More f.constraints g.constraints

-- a part already cut stays whole, after the merges p of the old sheet and q of the new
abbrev pub SheetWhole : Facts → Facts → List Merge → List Merge → Type 0
SheetWhole f g p q = Whole f.constraints g.constraints (graph_of f).clusters (graph_of g).clusters p q

-- the old sheet isn't over either, and its parts stay whole for each order of merging on either side
pub record NeverSmaller (f g : Facts) : Type 0 where
  pub not_over : verdict_of (graph_of f) ≢ Over
  pub whole : (p q : List Merge) → Maximal (graph_of f).clusters p → Maximal (graph_of g).clusters q → SheetWhole f g p q
