-- Constraints noted for rule 7, as who is constrained with whom (theory, `Near`).
use Rattle.std.specs.Prelude.{◌∷◌, ◌<◌}
use Rattle.theory.specs.Prelude.{List, [], map, ℕ}
use Rattle.theory.specs.Near.{Near}
use Rattle.sheet.specs.declared.Constraint.{Constraint}
use Rattle.sheet.specs.Graph.{cluster_of}
pub mod Laws

-- first end below second below n, in each constraint (document 01, rule 6)
abbrev pub Ascend : ℕ → List Constraint → Type 0
Ascend n [] = Unit {0}
Ascend n (c ∷ cs) = (c.first < c.second) × (c.second < n) × Ascend n cs

pub record Noted (near : List ℕ) (cs : List Constraint) : Type 0 where
  pub ascend : Ascend 64 cs
  pub pairs : Near (map cluster_of cs) near
